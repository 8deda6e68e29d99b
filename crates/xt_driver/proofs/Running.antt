-- What is counted where a call is run.
use Rattle.std.proofs.Common.{◌≡◌, ℕ, suc, ◌+◌, ◌-◌, ◌≤◌, List, [], ◌∷◌, ◌++◌, length, Bool, true, false, ◌&&◌, cond, nat_eq, nat_le, Option, Some}
use Rattle.std.proofs.Common.{None, Result, Ok, Err, refl, sym, ap, subst, ◌∙◌, arith}
use Rattle.std.specs.Prelude.{Box, IfOk, OnOk, min, bytes_eq}
use Rattle.std.proofs.lemmas.List.{append-nil, length-append}
use Rattle.std.proofs.lemmas.Bool.Decides.{nat_tests}
use Rattle.std.specs.declared.alloc.Global.{Global as Allocator}
use Rattle.spec_document.specs.Name.{Expanded, same_name}
use Rattle.spec_stylesheet.specs.Place.{Place}
use Rattle.spec_meaning.specs.Stream.{Stream}
use Rattle.spec_meaning.specs.Question.{Question, Answer}
use Rattle.spec_meaning.specs.Program.{Wanted, Global, Given, Valued}
use Rattle.spec_meaning.specs.Supplies.{Supplies, at_hand, found}
use Rattle.spec_meaning.specs.Supplies as supplies
use Rattle.spec_run.specs.Plan.{Refused, Call, Plan, Use, Enter}
use Rattle.spec_run.specs.Direct.{Supplied, Known, Failed, Ending, Finished, Gave, Halted, Outcome}
use Rattle.spec_run.specs.Going.{Event, Saw, Entered, Going, at_start, noted, opened, given, Owned, owned, own, unless_halted, if_known}
use Rattle.spec_run.specs.Hold.{GoesOn}
use Rattle.spec_run.specs.Passes.{Passes, stays, asks, uses, puts, begins, wraps, takes, goes_deep, is_too_deep}
use Rattle.spec_run.specs.Trail.{Kept}
use Rattle.spec_run.specs.Content.{plan_of}
use Rattle.spec_run.specs.Meaning.{Setting, Past, referred, meaning, settled}
use Rattle.spec_reuse.specs.Among.{IsIn}
use Rattle.spec_reuse.specs.Instantiation.{Instantiation, own_of, kept_of, for_reference, entered, instantiations}
use Rattle.spec_reuse.specs.Ledger.{nested_along, nested_but, unless_known, AllFound, AreOfRun, Enters, IsRun, IsStuck}
use Rattle.spec_reuse.proofs.Counting.{some_in, nested_entered, nested_referred, nested_but_append, nested_but_entered, nested_but_referred, nested_some}
use Rattle.spec_reuse.proofs.Counting.{front_of_run, passes_served, reference_found_again}
use Rattle.spec_reuse.proofs.Ends.{given_ends}
use Rattle.spec_reuse.proofs.Entering.{entered_at}
use Rattle.spec_reuse.proofs.Fronts.{own_grows}
use Rattle.spec_reuse.proofs.Further.{passes_further, passes_given}
use Rattle.spec_reuse.proofs.Steps.{run_begins, run_passes, run_enters, run_refers}
use Rattle.spec_reuse.proofs.Within.{in_right, reference_left}
use Rattle.spec_node.specs.declared.node_ref.NodeRef.{NodeRef}
use Rattle.spec_node.specs.Naming.{same_ref}
use Rattle.spec_meaning.specs.Value.{Value}
use Rattle.xt_engine.specs.View.{call_of, refused_of}
use Rattle.xt_engine.specs.declared.call.Call.{Call as CodeCall}
use Rattle.xt_engine.specs.declared.turn.Entered.{Entered as Entering}
use Rattle.xt_engine.specs.declared.turn.Turn.TheVariants.{Want, WantGlobal, Done}
use Rattle.xt_engine.specs.Advances.{Advances, AdvancesSo, ends, gift_of, ran_of}
use Rattle.xt_engine.specs.Progress.{Progress, Gift, Start, Goes, Halts, ForNothing, ForCall, ForGlobal, received, started, supplies_for, after_call}
use Rattle.xt_engine.specs.Progress.{after_global, circular, supplied_with}
use Rattle.xt_record.specs.declared.index.Index.{Index}
use Rattle.xt_record.specs.declared.pool.Pool.{Pool}
use Rattle.xt_record.specs.declared.reuse.Reuse.{Reuse}
use Rattle.xt_text.specs.declared.memory.Memory.{Memory}
use Rattle.std.specs.declared.rc.Rc.{Rc}
use Rattle.std.proofs.lemmas.Slice.Eq.{bytes_eq-Decides}
use Rattle.spec_run.specs.Trail.{kept_as}
use Rattle.spec_run.specs.World.{same_element, same_module}
use Rattle.xt_syntax.specs.PartView.{place_of}
use Rattle.xt_tree.specs.ValueView.{value_of}
use Rattle.xt_tree.specs.declared.items.Items.{Items}
use Rattle.xt_engine.specs.declared.call.Refused.{Refused as CodeRefused}
use Rattle.xt_engine.specs.declared.event.Ran.{Ran}
use Rattle.xt_engine.specs.declared.turn.Entered.TheVariants as entering
use Rattle.xt_engine.specs.declared.turn.RunFault.{RunFault}
use Rattle.xt_engine.specs.declared.turn.RunFault.TheVariants as faults
use Rattle.xt_record.specs.Kept.{kept_with}
use Rattle.xt_driver.specs.declared.level.Needed.{Needed}
use Rattle.xt_driver.specs.declared.lost.Lost.TheVariants as lost
use Rattle.xt_driver.specs.declared.lost.LostReference.{LostReference}
use Rattle.xt_driver.specs.declared.memo.Referred.{Referred}
use Rattle.xt_driver.specs.declared.came.Outcome.{Outcome as Came}
use Rattle.xt_driver.specs.Along.{refuses}
use Rattle.xt_driver.specs.View.{outcome_of, gift_for, Gives, GivesSo, IsRefused, IsRefusedSo, IsStreamed, IsTaken}
use Rattle.xt_record.specs.Grown.{values_of}
use Rattle.xt_record.specs.Search.{StandOn}
use Rattle.xt_driver.specs.declared.lost.Lost.{Lost}
use Rattle.xt_driver.specs.Lost.{is_lost, is_to, IsLost}
use Rattle.xt_driver.specs.Stands.{Level, supply_of, nested_of, Agrees, Stands, StandsSo}
use Rattle.xt_driver.specs.Counted.{Hand, kept_by, records_of, KeepsAll, IsReady, most_counted, IsCounted, Counted, CountsFor, CountsOver, CountedRun}
use Rattle.xt_driver.specs.Counted.{known_by, KeepsOn, StaysLikeRun}
use Rattle.xt_driver.proofs.Given.{equal_names, hand_more, found_last}
use Rattle.xt_driver.proofs.Owns.{own_passes}
use Rattle.xt_driver.proofs.Less.{referred_at, referred_less}
use Rattle.xt_driver.proofs.Standing.{in_room, own_ends, stands_halt}
use Rattle.xt_driver.proofs.Completing.{keeps_same, within_same, found_at_hand, all_found_on, keeps_none, keeps_found, keeps_of, keeps_both, likes_same}
use Rattle.xt_driver.proofs.Tallying.{ready_on, more_counted, records_same, stand_same}

abbrev pub at_level : Level → Instantiation NodeRef
at_level l = record { call = l.call; below = l.below; past = l.past }

abbrev Trace : Type 0
Trace = List (Event NodeRef)

-- ---- Where a run goes on

-- it came as far as this, from where it goes on; where it is refused, this is all
abbrev pub ReachedSo : Level → Plan NodeRef → List (Event NodeRef) → Start NodeRef → Type 0
ReachedSo l left done (Goes g s) = (q : Plan NodeRef) × (k : Going NodeRef) × Passes l.setting.ask (at_hand s) l.below left g q k × (k.trace ≡ done)
ReachedSo l left done (Halts why g) = (own_of l.setting (at_level l)).going.trace ≡ done

-- this run kept records of all that was entered for what is at hand
abbrev pub AtHandFound : Level → List (Kept NodeRef) → Supplies NodeRef → Type 0
AtHandFound l records s =
    (name : Expanded) (depth : ℕ) (place : Place) (y : Given NodeRef) → at_hand s depth (Global name) ≡ Some y
    → AllFound l.setting records (for_reference l.setting (entered l.setting l.below) l.past name depth place)

abbrev pub KnownSo : Level → List (Kept NodeRef) → Start NodeRef → Type 0
KnownSo l records (Goes g s) = AtHandFound l records s
KnownSo l records (Halts why g) = Unit {0}

pub record Running (l : Level) (lo : Lost) (left : Plan NodeRef) (start : Start NodeRef) (a b : Hand) : Type 0 where
  pub done : List (Event NodeRef)
  pub list : List (Instantiation NodeRef)
  pub run : IsRun l.setting (at_level l) (known_by lo l.below) done (records_of a.reuse) list (records_of b.reuse)
  pub reached : ReachedSo l left done start
  pub known : KnownSo l (kept_by b.reuse) start
  pub ran : IsCounted (suc (length list)) a b
  pub stands : StandOn a.reuse b.reuse
  pub more : KeepsOn a.reuse b.reuse
  pub only : StaysLikeRun l.setting a.reuse b.reuse
  pub keeps : KeepsAll l.setting (nested_but l.setting (at_level l) (known_by lo l.below) done) b.reuse
  pub ready : IsReady l.setting l.past.values b

-- ---- What is noted

passes_both : {ask : Question NodeRef → Answer NodeRef} {hand : ℕ → Wanted → Option (Given NodeRef)} {room : ℕ} {p q r : Plan NodeRef}
    {g h k : Going NodeRef} → Passes ask hand room p g q h → Passes ask hand room q h r k → Passes ask hand room p g r k
passes_both stays b = b
passes_both (asks a) b = asks (passes_both a b)
passes_both (uses e a) b = uses e (passes_both a b)
passes_both (puts a) b = puts (passes_both a b)
passes_both (begins a) b = begins (passes_both a b)
passes_both (wraps a) b = wraps (passes_both a b)
passes_both (takes a) b = takes (passes_both a b)
passes_both (goes_deep e a) b = goes_deep e (passes_both a b)
passes_both (is_too_deep e) stays = is_too_deep e

module _ (l : Level) where
  enter_grows : (c : Call NodeRef) (d : ℕ) (next : Plan NodeRef) (g : Going NodeRef)
      → (more : Trace) × ((own l.setting.ask (supply_of l) (nested_of l) l.below (Enter c d next) g).going.trace ≡ (g.trace ++ Entered c d ∷ []) ++ more)
      × ((why : Refused) → (nested_of l d c).ending ≡ Halted why → more ≡ [])
  enter_grows c d next g = go (nested_of l d c).ending (own_grows l.setting.ask (supply_of l) (nested_of l) l.below next h)
    where
      h : Going NodeRef
      h = given (nested_of l d c).content (opened c d g)

      go : (x : Ending NodeRef)
          → (more : Trace) × ((own l.setting.ask (supply_of l) (nested_of l) l.below next (given (nested_of l d c).content (opened c d g))).going.trace
          ≡ (g.trace ++ Entered c d ∷ []) ++ more)
          → (more : Trace) × ((unless_halted (own l.setting.ask (supply_of l) (nested_of l) l.below next (given (nested_of l d c).content (opened c d g)))
          (given (nested_of l d c).content (opened c d g)) x).going.trace ≡ (g.trace ++ Entered c d ∷ []) ++ more)
          × ((why : Refused) → x ≡ Halted why → more ≡ [])
      go Finished f = (f.0, f.1, λ why e. absurd (cc))
      go (Gave v) f = (f.0, f.1, λ why e. absurd (cc))
      go (Halted why) f = ([], sym (append-nil (g.trace ++ Entered c d ∷ [])), λ w e. refl)

  use_grows : (w : Wanted) (d : ℕ) (p : Place) (next : Given NodeRef → Plan NodeRef) (g : Going NodeRef)
      → (more : Trace) × ((own l.setting.ask (supply_of l) (nested_of l) l.below (Use w d p next) g).going.trace
      ≡ (g.trace ++ Saw w d p (supply_of l w d p) ∷ []) ++ more)
      × ((why : Refused) → supply_of l w d p ≡ Failed why → more ≡ [])
  use_grows w d p next g =
      go (supply_of l w d p) (λ v. own_grows l.setting.ask (supply_of l) (nested_of l) l.below (next v) (noted (Saw w d p (supply_of l w d p)) g))
    where
      h : Going NodeRef
      h = noted (Saw w d p (supply_of l w d p)) g

      go : (x : Supplied NodeRef)
          → ((v : Given NodeRef) → (more : Trace) × ((own l.setting.ask (supply_of l) (nested_of l) l.below (next v)
          (noted (Saw w d p (supply_of l w d p)) g)).going.trace ≡ (g.trace ++ Saw w d p (supply_of l w d p) ∷ []) ++ more))
          → (more : Trace) × ((if_known (λ v. own l.setting.ask (supply_of l) (nested_of l) l.below (next v) (noted (Saw w d p (supply_of l w d p)) g))
          (noted (Saw w d p (supply_of l w d p)) g) x).going.trace ≡ (g.trace ++ Saw w d p (supply_of l w d p) ∷ []) ++ more)
          × ((why : Refused) → x ≡ Failed why → more ≡ [])
      go (Known v) f = let m = f v in (m.0, m.1, λ why e. absurd (cc))
      go (Failed why) f = ([], sym (append-nil (g.trace ++ Saw w d p (supply_of l w d p) ∷ [])), λ w e. refl)

  -- ---- As far as the run comes next

  reach : (lo : Lost) (a b : Hand) (left r : Plan NodeRef) (g h : Going NodeRef) (s : Supplies NodeRef) (x : Running l lo left (Goes g s) a b)
      → Agrees (supply_of l) (at_hand s)
      → own l.setting.ask (supply_of l) (nested_of l) l.below left g ≡ own_of l.setting (at_level l)
      → Passes l.setting.ask (at_hand s) l.below left g r h → IsStuck (at_hand s) r
      → IsRun l.setting (at_level l) (known_by lo l.below) h.trace (records_of a.reuse) x.list (records_of b.reuse)
      × KeepsAll l.setting (nested_but l.setting (at_level l) (known_by lo l.below) h.trace) b.reuse
  reach lo a b left r g h s x agrees all passes stuck =
      let i = at_level l in
      let back = x.reached in
      let m = passes_served l.setting i (kept_by b.reuse) (at_hand s) l.below back.0 r back.1 h x.known
      (passes_further (λ d w y e. e) back.2 passes stuck) in
      let grown = own_grows l.setting.ask (supply_of l) (nested_of l) l.below r h in
      let trace : (own_of l.setting i).going.trace ≡ h.trace ++ grown.0
      = ap (λ (o : Owned NodeRef). o.going.trace) (sym all ∙ own_passes l.setting.ask (supply_of l) (nested_of l) l.below agrees passes) ∙ grown.1 in
      let at : h.trace ≡ x.done ++ m.0 = m.1 ∙ ap (λ es. es ++ m.0) back.3 in
      let E : Trace → Type 0 = λ es. IsRun l.setting i (known_by lo l.below) es (records_of a.reuse) x.list (records_of b.reuse) in
      let but : Trace → List (Instantiation NodeRef) = nested_but l.setting i (known_by lo l.below) in
      let behind = keeps_found l.setting (but m.0) b.reuse (λ j k. m.2 j (some_in (nested_some l.setting i (known_by lo l.below) m.0) j k)) in
      let all_kept = keeps_both l.setting (but x.done) (but m.0) b.reuse b.reuse (λ j k. k) x.keeps behind in (
        subst E (sym at) (run_passes l.setting i (known_by lo l.below) x.done m.0 grown.0 (records_of a.reuse) (records_of b.reuse) x.list x.run
            (trace ∙ ap (λ es. es ++ grown.0) at) (found_at_hand l.setting b.reuse (nested_along l.setting i m.0) x.ready.within m.2)),
        keeps_of l.setting (but x.done ++ but m.0) (but h.trace) b.reuse
            (sym (ap but at ∙ nested_but_append l.setting i (known_by lo l.below) x.done m.0)) all_kept,
      )

  -- what it does in all, where it comes to its end
  pub ran_whole : (lo : Lost) (a b : Hand) (done : Trace) (list : List (Instantiation NodeRef))
      → IsRun l.setting (at_level l) (known_by lo l.below) done (records_of a.reuse) list (records_of b.reuse)
      → (own_of l.setting (at_level l)).going.trace ≡ done → IsCounted (suc (length list)) a b → StandOn a.reuse b.reuse → KeepsOn a.reuse b.reuse
      → StaysLikeRun l.setting a.reuse b.reuse
      → KeepsAll l.setting (nested_but l.setting (at_level l) (known_by lo l.below) done) b.reuse
      → IsReady l.setting l.past.values b → CountedRun l.setting (at_level l) lo a b
  ran_whole lo a b done list run trace ran stands more only keeps ready = record {
    list = list;
    enters = let E : Trace → Type 0 = λ es. Enters l.setting (records_of a.reuse) list (nested_but l.setting (at_level l) (known_by lo l.below) es) (records_of b.reuse) in
        subst E (sym trace) run.enters;
    ran = ran;
    stands = stands;
    more = more;
    only = only;
    keeps = let K : Trace → Type 0 = λ es. KeepsAll l.setting (nested_but l.setting (at_level l) (known_by lo l.below) es) b.reuse in
        subst K (sym trace) keeps;
    ready = ready;
  }

-- ---- At the start

pub running_begun : (l : Level) (lo : Lost) (p : Progress) (gift : Option (Gift NodeRef)) (a : Hand) (reuse : Reuse)
    → p ≡ started l.call l.below → gift ≡ None → IsIn (at_level l) (instantiations l.setting) → IsReady l.setting l.past.values a
    → reuse.last ≡ a.reuse.last → reuse.kept ≡ a.reuse.kept → reuse.next ≡ a.reuse.next → reuse.steps.ran ≡ min (a.reuse.steps.ran + 1) most_counted
    → Running l lo p.left (received p.waits p.going p.supplies gift) a (record { reuse = reuse; entries = a.entries })
running_begun l lo p gift a reuse begun none h ready last kept next counted =
    let b : Hand = record { reuse = reuse; entries = a.entries } in
    let same = records_same a.reuse reuse last (ap (λ (x : Index). x.records.items) kept) in
    let on = stand_same a.reuse reuse last (ap (λ (x : Index). x.records.items) kept) in
    let still = ap (λ (x : Pool). values_of x.records.items) next in
    let more = keeps_same a.reuse reuse still in
    let i = at_level l in
    let I : List (Kept NodeRef) → Type 0 = λ ks. IsRun l.setting i (known_by lo l.below) [] (records_of a.reuse) [] ks in
    let plan = plan_of same_ref l.call in
    let first : Running l lo plan (Goes at_start (supplies_for l.call)) a b = record {
      done = [];
      list = [];
      run = subst I (sym same) (run_begins l.setting i (known_by lo l.below) (records_of a.reuse) h);
      reached = (plan, at_start, stays, refl);
      known = λ name depth place y e. absurd (cc);
      ran = λ low. counted;
      stands = on;
      more = more;
      only = λ m. likes_same l.setting a.reuse reuse still m;
      keeps = keeps_none l.setting reuse;
      ready = ready_on l.setting l.past.values a reuse more (within_same a.reuse reuse same still ready.within) ready;
    } in
    let P : Progress → Type 0 = λ x. Running l lo x.left (received x.waits x.going x.supplies gift) a b in
    let G : Option (Gift NodeRef) → Type 0 = λ y. Running l lo plan (received ForNothing at_start (supplies_for l.call) y) a b in
    subst P (sym begun) (subst G (sym none) first)

-- ---- A call

module _ (l : Level) (lo : Lost) (a b c : Hand) (q : Progress) (k : Call NodeRef) (d : ℕ) (g : Going NodeRef) (s : Supplies NodeRef)
    (left : Plan NodeRef) (x : Running l lo left (Goes g s) a b) (agrees : Agrees (supply_of l) (at_hand s))
    (all : own l.setting.ask (supply_of l) (nested_of l) l.below left g ≡ own_of l.setting (at_level l))
    (passes : Passes l.setting.ask (at_hand s) l.below left g (Enter k d q.left) q.going)
    (over : CountsOver l.setting l.past.values (entered l.setting l.below l.past d (settled l.call k)) b c) where
  come_to : IsRun l.setting (at_level l) (known_by lo l.below) q.going.trace (records_of a.reuse) x.list (records_of b.reuse)
      × KeepsAll l.setting (nested_but l.setting (at_level l) (known_by lo l.below) q.going.trace) b.reuse
  come_to = reach l lo a b left (Enter k d q.left) g q.going s x agrees all passes tt

  grown : (more : Trace) × ((own l.setting.ask (supply_of l) (nested_of l) l.below (Enter k d q.left) q.going).going.trace
      ≡ (q.going.trace ++ Entered k d ∷ []) ++ more) × ((why : Refused) → (nested_of l d k).ending ≡ Halted why → more ≡ [])
  grown = enter_grows l k d q.left q.going

  trace_so : (own_of l.setting (at_level l)).going.trace ≡ (q.going.trace ++ Entered k d ∷ []) ++ grown.0
  trace_so =
      ap (λ (o : Owned NodeRef). o.going.trace) (sym all ∙ own_passes l.setting.ask (supply_of l) (nested_of l) l.below agrees passes) ∙ grown.1

  inside : Counted l.setting l.past.values (entered l.setting l.below l.past d (settled l.call k)) b c
  inside = over (λ j m.
      let P : List (Instantiation NodeRef) → Type 0 = λ is. IsIn j is in
      front_of_run l.setting (at_level l) (q.going.trace ++ Entered k d ∷ []) grown.0 come_to.0.of_run trace_so j
      (subst P (sym (nested_entered l.setting (at_level l) q.going.trace k d)) (in_right j (nested_along l.setting (at_level l) q.going.trace) _ m))) x.ready

  entered_to : (start : Start NodeRef) → ReachedSo l q.left (q.going.trace ++ Entered k d ∷ []) start → KnownSo l (kept_by c.reuse) start
      → Running l lo q.left start a c
  entered_to start reached known = record {
    done = q.going.trace ++ Entered k d ∷ [];
    list = x.list ++ inside.list;
    run = run_enters l.setting (at_level l) (known_by lo l.below) q.going.trace grown.0 k d (records_of a.reuse) (records_of b.reuse) (records_of c.reuse)
        x.list inside.list come_to.0 trace_so inside.enters;
    reached = reached;
    known = known;
    ran = more_counted a b c (suc (length x.list)) (length inside.list) (suc (length (x.list ++ inside.list)))
        (let m = length-append x.list inside.list in omega (arith, m)) x.ran inside.ran;
    stands = λ at r m. inside.stands at r (x.stands at r m);
    more = λ j m. inside.more j (x.more j m);
    only = λ m. inside.only (x.only m);
    keeps = keeps_of l.setting
        (nested_but l.setting (at_level l) (known_by lo l.below) q.going.trace ++ entered l.setting l.below l.past d (settled l.call k))
        (nested_but l.setting (at_level l) (known_by lo l.below) (q.going.trace ++ Entered k d ∷ [])) c.reuse
        (sym (nested_but_entered l.setting (at_level l) (known_by lo l.below) q.going.trace k d))
        (keeps_both l.setting (nested_but l.setting (at_level l) (known_by lo l.below) q.going.trace) (entered l.setting l.below l.past d (settled l.call k))
        b.reuse c.reuse inside.more come_to.1 inside.keeps);
    ready = inside.ready;
  }

  -- by how it ends
  entered_as : (t : Stream) (e : Ending NodeRef) → (nested_of l d k).ending ≡ e
      → Running l lo q.left (after_call k d q.going s (Some (gift_for t e))) a c
  entered_as t Finished is = entered_to (Goes (given t (opened k d q.going)) s) (q.left, given t (opened k d q.going), stays, refl) later
    where
      later : AtHandFound l (kept_by c.reuse) s
      later name depth place y e =
          all_found_on l.setting (for_reference l.setting (entered l.setting l.below) l.past name depth place) b.reuse c.reuse inside.more
          (x.known name depth place y e)
  entered_as t (Gave v) is = entered_to (Goes (given t (opened k d q.going)) s) (q.left, given t (opened k d q.going), stays, refl) later
    where
      later : AtHandFound l (kept_by c.reuse) s
      later name depth place y e =
          all_found_on l.setting (for_reference l.setting (entered l.setting l.below) l.past name depth place) b.reuse c.reuse inside.more
          (x.known name depth place y e)
  entered_as t (Halted why) is = entered_to (Halts why (given t (opened k d q.going)))
      (trace_so ∙ ap (λ es. (q.going.trace ++ Entered k d ∷ []) ++ es) (grown.2 why is) ∙ append-nil (q.going.trace ++ Entered k d ∷ [])) tt

pub running_entered : (l : Level) (lo : Lost) (a b c : Hand) (p q : Progress) (gift : Option (Gift NodeRef)) (before after : List Stream) (w : Rc CodeCall Allocator)
    (d : ℕ) (came : Result (Box Came Allocator) Memory) (e : Option Entering)
    → Stands l p gift before → Advances l.setting.ask gift p q (Ok (Want w d)) → IfOk came (λ o. outcome_of o.value ≡ nested_of l d (call_of w.value))
    → IsStreamed e came before after
    → OnOk came (CountsOver l.setting l.past.values (entered l.setting l.below l.past d (settled l.call (call_of w.value))) b c)
    → Running l lo p.left (received p.waits p.going p.supplies gift) a b
    → Running l lo q.left (received q.waits q.going q.supplies (gift_of e)) a c
running_entered l lo a b c p q gift before after w d (Err m) e h adv means streamed over x = absurd streamed
running_entered l lo a b c p q gift before after w d (Ok o) e h adv means streamed over x =
    go (received p.waits p.going p.supplies gift) h.so adv.so x
  where
    go : (st : Start NodeRef) → StandsSo l p.left before st → AdvancesSo l.setting.ask p st q (Ok (Want w d)) → Running l lo p.left st a b
        → Running l lo q.left (received q.waits q.going q.supplies (gift_of e)) a c
    go (Halts why g) so to y = absurd to
    go (Goes g s) so to y =
        let k = call_of w.value in
        let out = outcome_of o.value in
        let is : received q.waits q.going q.supplies (gift_of e) ≡ after_call k d q.going s (Some (gift_for out.content out.ending))
        = ap (λ v. received v q.going q.supplies (gift_of e)) to.2 ∙ ap (λ v. received (ForCall k d) q.going v (gift_of e)) to.1
        ∙ ap (received (ForCall k d) q.going s) streamed.gift in
        let R : Start NodeRef → Type 0 = λ st. Running l lo q.left st a c in
        subst R (sym is) (entered_as l lo a b c q k d g s p.left y so.1 so.0 (in_room h.room to.0) over out.content out.ending
        (ap (λ (m : Outcome NodeRef). m.ending) (sym means)))

-- ---- A global

some_same : {V : Type 0} {x y : V} → Some x ≡ Some y → x ≡ y
some_same {V = V} {x = x} e = let P : Option V → Type 0 = λ o. elim o as (λ _. Type 0) [ None ↦ ⊥ | Some z ↦ (x ≡ z) ] in subst P e refl

both_of : (a b : Bool) → (a && b) ≡ true → (a ≡ true) × (b ≡ true)
both_of true b e = (refl, e)
both_of false b e = absurd (cc)

-- one more that is at hand
found_with : (l : Level) (records : List (Kept NodeRef)) (s : Supplies NodeRef) (n : Expanded) (d : ℕ) (v : Value NodeRef) → AtHandFound l records s
    → ((depth : ℕ) (place : Place) → depth ≤ d → AllFound l.setting records (for_reference l.setting (entered l.setting l.below) l.past n depth place))
    → AtHandFound l records (supplied_with n d v s)
found_with l records s n d v f one name depth place y e = go s.globals (λ u t. f name depth place u t) e
  where
    last : (b : Bool) → (same_name n name && nat_le depth d) ≡ b → cond b (Some (Valued v)) None ≡ Some y
        → AllFound l.setting records (for_reference l.setting (entered l.setting l.below) l.past name depth place)
    last true t u =
        let parts = both_of (same_name n name) (nat_le depth d) t in
        let deep = parts.1 in
        let low : depth ≤ d = grind (arith, nat_tests) in
        let P : Expanded → Type 0 = λ m. AllFound l.setting records (for_reference l.setting (entered l.setting l.below) l.past m depth place) in
        subst P (equal_names n name parts.0) (one depth place low)
    last false t u = absurd (cc)

    go : (ks : List (supplies.Known NodeRef)) → ((u : Given NodeRef) → found name depth ks ≡ Some u
        → AllFound l.setting records (for_reference l.setting (entered l.setting l.below) l.past name depth place))
        → found name depth (ks ++ record { name = n; depth = d; value = v } ∷ []) ≡ Some y
        → AllFound l.setting records (for_reference l.setting (entered l.setting l.below) l.past name depth place)
    go [] h t = last (same_name n name && nat_le depth d) refl t
    go (k ∷ ks) h t = by (same_name k.name name && nat_le depth k.depth) h (λ r. go ks r) t
      where
        by : (b : Bool) → ((u : Given NodeRef) → cond b (Some (Valued k.value)) (found name depth ks) ≡ Some u
            → AllFound l.setting records (for_reference l.setting (entered l.setting l.below) l.past name depth place))
            → (((u : Given NodeRef) → found name depth ks ≡ Some u
            → AllFound l.setting records (for_reference l.setting (entered l.setting l.below) l.past name depth place))
            → found name depth (ks ++ record { name = n; depth = d; value = v } ∷ []) ≡ Some y
            → AllFound l.setting records (for_reference l.setting (entered l.setting l.below) l.past name depth place))
            → cond b (Some (Valued k.value)) (found name depth (ks ++ record { name = n; depth = d; value = v } ∷ [])) ≡ Some y
            → AllFound l.setting records (for_reference l.setting (entered l.setting l.below) l.past name depth place)
        by true r more u = r y u
        by false r more u = more r u

module _ (l : Level) (lo : Lost) (a b c : Hand) (q : Progress) (n : Expanded) (d left : ℕ) (place : Place) (g last : Going NodeRef)
    (s : Supplies NodeRef) (plan : Plan NodeRef) (next : Given NodeRef → Plan NodeRef) (x : Running l lo plan (Goes g s) a b)
    (agrees : Agrees (supply_of l) (at_hand s)) (low : left ≡ l.below - d)
    (all : own l.setting.ask (supply_of l) (nested_of l) l.below plan g ≡ own_of l.setting (at_level l))
    (start_so : Passes l.setting.ask (at_hand s) l.below plan g q.left q.going)
    (to_use : Passes l.setting.ask (at_hand s) l.below q.left q.going (Use (Global n) d place next) last)
    (missing : at_hand s d (Global n) ≡ None)
    (over : CountsFor l.setting l.past lo n left place b c) where
  passed : Passes l.setting.ask (at_hand s) l.below plan g (Use (Global n) d place next) last
  passed = passes_both start_so to_use

  came_so : IsRun l.setting (at_level l) (known_by lo l.below) last.trace (records_of a.reuse) x.list (records_of b.reuse)
      × KeepsAll l.setting (nested_but l.setting (at_level l) (known_by lo l.below) last.trace) b.reuse
  came_so = reach l lo a b plan (Use (Global n) d place next) g last s x agrees all passed missing

  grows : (more : Trace) × ((own l.setting.ask (supply_of l) (nested_of l) l.below (Use (Global n) d place next) last).going.trace
      ≡ (last.trace ++ Saw (Global n) d place (supply_of l (Global n) d place) ∷ []) ++ more)
      × ((why : Refused) → supply_of l (Global n) d place ≡ Failed why → more ≡ [])
  grows = use_grows l (Global n) d place next last

  trace_is : (own_of l.setting (at_level l)).going.trace ≡ (last.trace ++ Saw (Global n) d place (supply_of l (Global n) d place) ∷ []) ++ grows.0
  trace_is =
      ap (λ (o : Owned NodeRef). o.going.trace) (sym all ∙ own_passes l.setting.ask (supply_of l) (nested_of l) l.below agrees passed) ∙ grows.1

  -- what is entered for the reference is of the run
  of_run : AreOfRun l.setting (for_reference l.setting (entered l.setting l.below) l.past n d place)
  of_run j m =
      let P : List (Instantiation NodeRef) → Type 0 = λ is. IsIn j is in
      front_of_run l.setting (at_level l) (last.trace ++ Saw (Global n) d place (supply_of l (Global n) d place) ∷ []) grows.0 came_so.0.of_run trace_is j
      (subst P (sym (nested_referred l.setting (at_level l) last.trace n d place (supply_of l (Global n) d place)))
      (in_right j (nested_along l.setting (at_level l) last.trace) _ m))

  nearer : for_reference l.setting (entered l.setting left) l.past n 0 place ≡ for_reference l.setting (entered l.setting l.below) l.past n d place
  nearer = ap (λ m. for_reference l.setting (entered l.setting m) l.past n 0 place) low ∙ sym (reference_left l.setting l.below l.past n d place)

  entered_so : (t : Bool) → AreOfRun l.setting (cond t [] (for_reference l.setting (entered l.setting l.below) l.past n d place))
  entered_so true j m = absurd m
  entered_so false j m = of_run j m

  gone : Counted l.setting l.past.values (unless_known (known_by lo l.below) (for_reference l.setting (entered l.setting l.below) l.past) n d place) b c
  gone =
      let C : List (Instantiation NodeRef) → Type 0 = λ is. CountsOver l.setting l.past.values (cond (is_lost lo n left place) [] is) b c in
      let D : ℕ → Type 0 = λ m. CountsOver l.setting l.past.values (cond (is_lost lo n m place) []
      (for_reference l.setting (entered l.setting l.below) l.past n d place)) b c in
      (subst D low (subst C nearer over)) (entered_so (is_lost lo n (l.below - d) place)) x.ready

  referred_to : (start : Start NodeRef) → ReachedSo l q.left (last.trace ++ Saw (Global n) d place (supply_of l (Global n) d place) ∷ []) start
      → KnownSo l (kept_by c.reuse) start → Running l lo q.left start a c
  referred_to start reached known = record {
    done = last.trace ++ Saw (Global n) d place (supply_of l (Global n) d place) ∷ [];
    list = x.list ++ gone.list;
    run = run_refers l.setting (at_level l) (known_by lo l.below) last.trace grows.0 n d place (supply_of l (Global n) d place) (records_of a.reuse)
        (records_of b.reuse) (records_of c.reuse) x.list gone.list came_so.0 trace_is gone.enters;
    reached = reached;
    known = known;
    ran = more_counted a b c (suc (length x.list)) (length gone.list) (suc (length (x.list ++ gone.list)))
        (let m = length-append x.list gone.list in omega (arith, m)) x.ran gone.ran;
    stands = λ at r m. gone.stands at r (x.stands at r m);
    more = λ j m. gone.more j (x.more j m);
    only = λ m. gone.only (x.only m);
    keeps = keeps_of l.setting
        (nested_but l.setting (at_level l) (known_by lo l.below) last.trace
        ++ unless_known (known_by lo l.below) (for_reference l.setting (entered l.setting l.below) l.past) n d place)
        (nested_but l.setting (at_level l) (known_by lo l.below) (last.trace ++ Saw (Global n) d place (supply_of l (Global n) d place) ∷ [])) c.reuse
        (sym (nested_but_referred l.setting (at_level l) (known_by lo l.below) last.trace n d place (supply_of l (Global n) d place)))
        (keeps_both l.setting (nested_but l.setting (at_level l) (known_by lo l.below) last.trace)
        (unless_known (known_by lo l.below) (for_reference l.setting (entered l.setting l.below) l.past) n d place)
        b.reuse c.reuse gone.more came_so.1 gone.keeps);
    ready = gone.ready;
  }

  -- it is refused
  referred_off : (why : Refused) (at : Going NodeRef) → supply_of l (Global n) d place ≡ Failed why → Running l lo q.left (Halts why at) a c
  referred_off why at is =
      referred_to (Halts why at) (trace_is ∙ ap (λ es. (last.trace ++ Saw (Global n) d place (supply_of l (Global n) d place) ∷ []) ++ es) (grows.2 why is)
      ∙ append-nil (last.trace ++ Saw (Global n) d place (supply_of l (Global n) d place) ∷ [])) tt

  -- it has a value, where it is not known to be refused
  referred_on : (v : Value NodeRef) → supply_of l (Global n) d place ≡ Known (Valued v) → is_lost lo n (l.below - d) place ≡ false
      → ((depth : ℕ) (there : Place) → depth ≤ d → supply_of l (Global n) depth there ≡ Known (Valued v))
      → Running l lo q.left (Goes q.going (supplied_with n d v s)) a c
  referred_on v is other lower =
      let more = hand_more s n d v in
      let T : Supplied NodeRef → Type 0 = λ y. (noted (Saw (Global n) d place (Known (Valued v))) last).trace ≡ last.trace ++ Saw (Global n) d place y ∷ [] in
      let got : at_hand (supplied_with n d v s) d (Global n) ≡ Some (Valued v) = found_last n d v s.globals missing in
      let forward = passes_given (Valued v) more to_use got in
      let kept : AtHandFound l (kept_by c.reuse) s = λ name depth there y e.
      all_found_on l.setting (for_reference l.setting (entered l.setting l.below) l.past name depth there) b.reuse c.reuse gone.more
      (x.known name depth there y e) in
      let K : Bool → Type 0 = λ t. KeepsAll l.setting (cond t [] (for_reference l.setting (entered l.setting l.below) l.past n d place)) c.reuse in
      let keeps = subst K other gone.keeps in
      let ends = given_ends l.setting (at_level l) n d place (Valued v) is in
      let here : AllFound l.setting (kept_by c.reuse) (for_reference l.setting (entered l.setting l.below) l.past n d place)
      = λ j m. keeps.found j m (ends j m) in
      referred_to (Goes q.going (supplied_with n d v s)) (next (Valued v), noted (Saw (Global n) d place (Known (Valued v))) last, forward, subst T (sym is) refl)
      (found_with l (kept_by c.reuse) s n d v kept (λ depth there deep.
      reference_found_again l.setting (kept_by c.reuse) (at_level l) n d depth place there (Valued v) (Valued v) is (lower depth there deep) here))

-- ---- What is known

same_modules : (m n : Option (List ℕ)) → same_module m n ≡ true → m ≡ n
same_modules None None h = refl
same_modules (Some m) (Some n) h = ap (λ x. Some x) ((bytes_eq-Decides m n).0 h)
same_modules None (Some n) h = absurd (cc)
same_modules (Some m) None h = absurd (cc)

same_places : (p q : Place) → same_element p q ≡ true → p ≡ q
same_places p q h =
    let parts = both_of (same_module p.module_name q.module_name) (bytes_eq p.path q.path) h in
    let module_name = same_modules p.module_name q.module_name parts.0 in
    let path = (bytes_eq-Decides p.path q.path).0 parts.1 in
    λ i. record { module_name = module_name i; path = path i }

is_to_same : (l : LostReference) (name : Expanded) (levels : ℕ) (place : Place) → is_to l name levels place ≡ true
    → (l.levels ≡ levels) × (l.needed.value.name ≡ name) × (place_of l.needed.value.place ≡ place)
is_to_same l name levels place e =
    let first = nat_eq l.levels levels && same_name l.needed.value.name name in
    let parts = both_of first (same_element (place_of l.needed.value.place) place) e in
    let names = both_of (nat_eq l.levels levels) (same_name l.needed.value.name name) parts.0 in
    let number = names.0 in
    let same : l.levels ≡ levels = grind (arith, nat_tests) in
    (same, equal_names l.needed.value.name name names.1, same_places (place_of l.needed.value.place) place parts.1)

refused_as : (g : Entering) (place : Place) (x : Supplied NodeRef) → GivesSo g place x → refuses g ≡ true → (why : Refused) × (x ≡ Failed why)
refused_as (entering.Value v) place x h is = absurd (cc)
refused_as (entering.Stream t) place x h is = absurd (cc)
refused_as entering.UnderWay place x h is = absurd (cc)
refused_as (entering.Refused why t) place x h is = (refused_of why, h)

-- a reference that is known to be refused has no value
known_off : (lo : Lost) (n : Expanded) (levels : ℕ) (place : Place) (l : Level) (d : ℕ) → levels ≡ l.below - d → IsLost l.setting l.past lo
    → (v : Value NodeRef) → supply_of l (Global n) d place ≡ Known (Valued v) → is_lost lo n levels place ≡ false
known_off lost.Nothing n levels place l d low h v is = refl
known_off (lost.Reference r) n levels place l d low h v is = go (is_to r.value n levels place) refl
  where
    go : (t : Bool) → is_to r.value n levels place ≡ t → t ≡ false
    go false e = refl
    go true e =
        let same = is_to_same r.value n levels place e in
        let why = refused_as r.value.referred.value.entered (place_of r.value.needed.value.place) _ h.0.so h.1 in
        let there : referred l.setting (meaning l.setting r.value.levels) l.past r.value.needed.value.name 0 (place_of r.value.needed.value.place)
        ≡ supply_of l (Global n) d place
        = ap (λ m. referred l.setting (meaning l.setting m) l.past r.value.needed.value.name 0 (place_of r.value.needed.value.place)) same.0
        ∙ ap (λ m. referred l.setting (meaning l.setting levels) l.past m 0 (place_of r.value.needed.value.place)) same.1
        ∙ ap (referred l.setting (meaning l.setting levels) l.past n 0) same.2 ∙ referred_at l.setting l.below l.past n d levels place low in
        let no : Failed why.0 ≡ Known (Valued v) = sym why.1 ∙ there ∙ is in absurd (cc)

pub running_referred : (l : Level) (lo : Lost) (a b c : Hand) (p q : Progress) (gift : Option (Gift NodeRef)) (before : List Stream) (needed : Needed)
    (d left : ℕ) (came : Result (Box Referred Allocator) Memory) (e : Option Entering)
    → Stands l p gift before → Advances l.setting.ask gift p q (Ok (WantGlobal needed.name d needed.place)) → left ≡ l.below - d
    → IsLost l.setting l.past lo
    → IfOk came (λ r. Gives r.value.entered (place_of needed.place) (referred l.setting (meaning l.setting l.below) l.past needed.name d (place_of needed.place)))
    → IsTaken e came → OnOk came (CountsFor l.setting l.past lo needed.name left (place_of needed.place) b c)
    → Running l lo p.left (received p.waits p.going p.supplies gift) a b
    → Running l lo q.left (received q.waits q.going q.supplies (gift_of e)) a c
running_referred l lo a b c p q gift before needed d left (Err m) e h adv low lost_so gives taken over x = absurd taken
running_referred l lo a b c p q gift before needed d left (Ok r) e h adv low lost_so gives taken over x =
    go (received p.waits p.going p.supplies gift) h.so adv.so x
  where
    place : Place
    place = place_of needed.place

    go : (st : Start NodeRef) → StandsSo l p.left before st → AdvancesSo l.setting.ask p st q (Ok (WantGlobal needed.name d needed.place))
        → Running l lo p.left st a b → Running l lo q.left (received q.waits q.going q.supplies (gift_of e)) a c
    go (Halts why g) so to y = absurd to
    go (Goes g s) so to y =
        let is : received q.waits q.going q.supplies (gift_of e) ≡ after_global needed.name d (place_of needed.place) q.going s (gift_of (Some r.value.entered))
        = ap (λ v. received v q.going q.supplies (gift_of e)) to.3
        ∙ ap (λ v. received (ForGlobal needed.name d (place_of needed.place)) q.going v (gift_of e)) to.2
        ∙ ap (λ v. received (ForGlobal needed.name d (place_of needed.place)) q.going s (gift_of v)) taken in
        let R : Start NodeRef → Type 0 = λ st. Running l lo q.left st a c in
        subst R (sym is) (by_given r.value.entered gives.so)
      where
        by_given : (v : Entering) → GivesSo v (place_of needed.place) (supply_of l (Global needed.name) d (place_of needed.place))
            → Running l lo q.left (after_global needed.name d (place_of needed.place) q.going s (gift_of (Some v))) a c
        by_given (entering.Stream t) f = absurd f
        by_given (entering.Refused why t) f =
            referred_off l lo a b c q needed.name d left (place_of needed.place) g to.1.last s p.left to.1.next y so.1 low so.0 (in_room h.room to.0)
            (in_room h.room to.1.passes) to.1.missing over (refused_of why) q.going f
        by_given entering.UnderWay f =
            referred_off l lo a b c q needed.name d left (place_of needed.place) g to.1.last s p.left to.1.next y so.1 low so.0 (in_room h.room to.0)
            (in_room h.room to.1.passes) to.1.missing over (circular (place_of needed.place)) q.going f
        by_given (entering.Value v) f =
            referred_on l lo a b c q needed.name d left (place_of needed.place) g to.1.last s p.left to.1.next y so.1 low so.0 (in_room h.room to.0)
            (in_room h.room to.1.passes) to.1.missing over (value_of v) f
            (known_off lo needed.name (l.below - d) (place_of needed.place) l d refl lost_so (value_of v) f)
            (λ depth there less. referred_less l.setting l.below l.past needed.name d depth (place_of needed.place) there (Valued (value_of v)) less f)

-- ---- At its end

stuck_end : (hand : ℕ → Wanted → Option (Given NodeRef)) (e : Ending NodeRef) → IsStuck hand (ends e)
stuck_end hand Finished = tt
stuck_end hand (Gave v) = tt
stuck_end hand (Halted why) = tt

module _ (l : Level) (lo : Lost) (a b : Hand) (left : Plan NodeRef) (g last : Going NodeRef) (s : Supplies NodeRef) (e : Ending NodeRef)
    (x : Running l lo left (Goes g s) a b) (agrees : Agrees (supply_of l) (at_hand s))
    (all : own l.setting.ask (supply_of l) (nested_of l) l.below left g ≡ own_of l.setting (at_level l))
    (passes : Passes l.setting.ask (at_hand s) l.below left g (ends e) last) where
  comes_to_end : CountedRun l.setting (at_level l) lo a b
  comes_to_end =
      let trace = ap (λ (o : Owned NodeRef). o.going.trace) (sym all ∙ own_passes l.setting.ask (supply_of l) (nested_of l) l.below agrees passes ∙ own_ends l e last) in
      let reached = reach l lo a b left (ends e) g last s x agrees all passes (stuck_end (at_hand s) e) in
      ran_whole l lo a b last.trace x.list reached.0 trace x.ran x.stands x.more x.only reached.1 x.ready

pub running_done : (l : Level) (lo : Lost) (a b : Hand) (p q : Progress) (gift : Option (Gift NodeRef)) (ss : List Stream) (ran : Ran)
    → Stands l p gift ss → Advances l.setting.ask gift p q (Ok (Done ran)) → Running l lo p.left (received p.waits p.going p.supplies gift) a b
    → CountedRun l.setting (at_level l) lo a b
running_done l lo a b p q gift ss ran h adv x = go (received p.waits p.going p.supplies gift) h.so adv.so x
  where
    go : (st : Start NodeRef) → StandsSo l p.left ss st → AdvancesSo l.setting.ask p st q (Ok (Done ran)) → Running l lo p.left st a b
        → CountedRun l.setting (at_level l) lo a b
    go (Halts why g) so to y = absurd to
    go (Goes g s) so to y = comes_to_end l lo a b p.left g to.last s (ran_of ran).ending y so.1 so.0 (in_room h.room to.passes)

pub running_failed : (l : Level) (lo : Lost) (a b : Hand) (p q : Progress) (gift : Option (Gift NodeRef)) (ss : List Stream) (fault : RunFault) (o : Came)
    → Stands l p gift ss → Advances l.setting.ask gift p q (Err fault) → IsRefused fault o
    → Running l lo p.left (received p.waits p.going p.supplies gift) a b → CountedRun l.setting (at_level l) lo a b
running_failed l lo a b p q gift ss fault o h adv refused x = by_fault fault adv.so refused.so
  where
    go : (why : CodeRefused) (t : Rc Items Allocator) (st : Start NodeRef) → StandsSo l p.left ss st
        → AdvancesSo l.setting.ask p st q (Err (faults.Refused why t)) → Running l lo p.left st a b → CountedRun l.setting (at_level l) lo a b
    go why t (Halts w g) so to y = ran_whole l lo a b y.done y.list y.run y.reached y.ran y.stands y.more y.only y.keeps y.ready
    go why t (Goes g s) so to y = comes_to_end l lo a b p.left g to.last s (Halted (refused_of why)) y so.1 so.0 (in_room h.room to.passes)

    by_fault : (f : RunFault) → AdvancesSo l.setting.ask p (received p.waits p.going p.supplies gift) q (Err f) → IsRefusedSo f o
        → CountedRun l.setting (at_level l) lo a b
    by_fault faults.Memory to none = absurd none
    by_fault (faults.Refused why t) to none = go why t (received p.waits p.going p.supplies gift) h.so to x

-- ---- What is made

pub done_same : (l : Level) (p q : Progress) (gift : Option (Gift NodeRef)) (ss : List Stream) (ran : Ran) → Stands l p gift ss
    → Advances l.setting.ask gift p q (Ok (Done ran)) → kept_with l.call (ran_of ran) ≡ kept_of l.setting (at_level l)
done_same l p q gift ss ran h a = go (received p.waits p.going p.supplies gift) h.so a.so
  where
    go : (st : Start NodeRef) → StandsSo l p.left ss st → AdvancesSo l.setting.ask p st q (Ok (Done ran))
        → kept_with l.call (ran_of ran) ≡ kept_of l.setting (at_level l)
    go (Halts why g) so adv = absurd adv
    go (Goes g s) so adv =
        let e = (ran_of ran).ending in
        let ended : own_of l.setting (at_level l) ≡ owned adv.last e
        = sym so.0 ∙ own_passes l.setting.ask (supply_of l) (nested_of l) l.below so.1 (in_room h.room adv.passes) ∙ own_ends l e adv.last in
        ap (kept_with l.call) (sym adv.same) ∙ ap (λ (o : Owned NodeRef). kept_as l.call o.going o.ending) (sym ended)

pub failed_same : (l : Level) (p q : Progress) (gift : Option (Gift NodeRef)) (ss : List Stream) (fault : RunFault) (o : Came) → Stands l p gift ss
    → Advances l.setting.ask gift p q (Err fault) → IsRefused fault o → ¬ (GoesOn (own_of l.setting (at_level l)).ending)
failed_same l p q gift ss fault o h adv refused = by_fault fault adv refused.so
  where
    by_fault : (f : RunFault) → Advances l.setting.ask gift p q (Err f) → IsRefusedSo f o → ¬ (GoesOn (own_of l.setting (at_level l)).ending)
    by_fault faults.Memory to none = absurd none
    by_fault (faults.Refused why t) to none = λ on.
        let G : Ending NodeRef → Type 0 = λ x. GoesOn x in
        subst G (ap (λ (m : Outcome NodeRef). m.ending) (stands_halt l p q gift ss why t h to)) on

-- ---- In a world with the same truth

abbrev Ask : Type 0
Ask = Question NodeRef → Answer NodeRef

pub over_from : {T : Type 0} (s : Ask → Setting NodeRef) {x y : Ask} (past : Past NodeRef) (below d left : ℕ) (inner k : Call NodeRef)
    (came : Result T Memory) (m n : Hand) → x ≡ y → left ≡ below - d → inner ≡ k
    → OnOk came (CountsOver (s x) past.values (entered (s x) left past 0 inner) m n)
    → OnOk came (CountsOver (s y) past.values (entered (s y) below past d k) m n)
over_from s {y = y} past below d left inner k came m n same low is h =
    let P : Ask → Type 0 = λ t. OnOk came (CountsOver (s t) past.values (entered (s t) left past 0 inner) m n) in
    let Q : List (Instantiation NodeRef) → Type 0 = λ l. OnOk came (CountsOver (s y) past.values l m n) in
    let all : entered (s y) left past 0 inner ≡ entered (s y) below past d k
    = ap (λ r. entered (s y) r past 0 inner) low ∙ ap (entered (s y) (below - d) past 0) is ∙ sym (entered_at (s y) below past d k) in
    subst Q all (subst P same h)

pub for_from : {T : Type 0} (s : Ask → Setting NodeRef) {x y : Ask} (past : Past NodeRef) (lo : Lost) (left : ℕ) (one other : Needed)
    (came : Result T Memory) (m n : Hand) → x ≡ y → one ≡ other
    → OnOk came (CountsFor (s x) past lo one.name left (place_of one.place) m n)
    → OnOk came (CountsFor (s y) past lo other.name left (place_of other.place) m n)
for_from s {x = x} {y = y} past lo left one other came m n same is h =
    let P : Ask → Type 0 = λ t. OnOk came (CountsFor (s t) past lo one.name left (place_of one.place) m n) in
    let Q : Needed → Type 0 = λ q. OnOk came (CountsFor (s y) past lo q.name left (place_of q.place) m n) in
    subst Q is (subst P same h)
