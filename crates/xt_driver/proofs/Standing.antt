-- Where a run stands, turn by turn.
use Rattle.std.proofs.Common.{◌≡◌, ℕ, zero, suc, ◌+◌, ◌-◌, ◌<◌, List, [], ◌∷◌, ◌++◌, length, Option, Some, None, Result, Ok, Err, refl, sym, ap, subst, ◌∙◌, arith}
use Rattle.std.specs.Prelude.{Bool, IfOk, OnOk, Box}
use Rattle.std.specs.declared.rc.Rc.{Rc}
use Rattle.std.specs.declared.alloc.Global.{Global as Allocator}
use Rattle.spec_document.specs.Name.{Expanded}
use Rattle.spec_stylesheet.specs.Place.{Place}
use Rattle.spec_meaning.specs.Stream.{Stream, filled, holes}
use Rattle.spec_meaning.specs.Question.{Question, Answer}
use Rattle.spec_meaning.specs.Program.{Wanted, Global, Given, Valued}
use Rattle.spec_meaning.specs.Supplies.{Supplies, at_hand}
use Rattle.spec_run.specs.Plan.{Refused, Call, Plan}
use Rattle.spec_run.specs.Direct.{Supplied, Known, Failed, Ending, Finished, Gave, Halted, Outcome}
use Rattle.spec_run.specs.Going.{Saw, Going, at_start, noted, given, opened, closed, Owned, owned, unless_halted, if_known, own, whole}
use Rattle.spec_run.specs.Passes.{Passes}
use Rattle.spec_run.specs.Content.{plan_of}
use Rattle.spec_run.specs.Meaning.{Setting, Past, referred, meaning}
use Rattle.spec_run.proofs.Fill.{filled_whole}
use Rattle.spec_run.proofs.More.{meaning_at}
use Rattle.xt_syntax.specs.PartView.{place_of}
use Rattle.xt_base.specs.declared.place.Place.{Place as CodePlace}
use Rattle.spec_node.specs.declared.node_ref.NodeRef.{NodeRef}
use Rattle.spec_node.specs.Naming.{same_ref}
use Rattle.xt_tree.specs.declared.items.Items.{Items}
use Rattle.xt_tree.specs.StreamView.{stream_of}
use Rattle.xt_tree.specs.ValueView.{value_of}
use Rattle.xt_engine.specs.View.{call_of, refused_of}
use Rattle.xt_engine.specs.declared.call.Call.{Call as CodeCall}
use Rattle.xt_engine.specs.declared.call.Refused.{Refused as CodeRefused}
use Rattle.xt_engine.specs.declared.event.Ran.{Ran}
use Rattle.xt_engine.specs.declared.turn.Entered.{Entered}
use Rattle.xt_engine.specs.declared.turn.Entered.TheVariants as entered
use Rattle.xt_engine.specs.declared.turn.Turn.TheVariants.{Want, WantGlobal, Done}
use Rattle.xt_engine.specs.declared.turn.RunFault.{RunFault}
use Rattle.xt_engine.specs.declared.turn.RunFault.TheVariants.{Memory, Refused as Refuses}
use Rattle.xt_engine.specs.Progress.{Waiting, ForCall, ForGlobal, Progress, Gift, RefusedAs, IsUnderWay, Start, Goes, Halts, received, started, supplied_with, circular}
use Rattle.xt_engine.specs.Advances.{Advances, AdvancesSo, GoesSo, Made, ran_of, ends, gift_of}
use Rattle.xt_driver.specs.declared.came.Outcome.{Outcome as Came}
use Rattle.xt_text.specs.declared.memory.Memory.{Memory as NoMemory}
use Rattle.xt_driver.specs.declared.memo.Referred.{Referred}
use Rattle.xt_driver.specs.declared.level.Needed.{Needed}
use Rattle.xt_driver.specs.declared.level.Step.{Step}
use Rattle.xt_driver.specs.View.{outcome_of, gift_for, Gives, GivesSo, IsRefused, IsRefusedSo, IsStreamed, IsTaken}
use Rattle.xt_driver.specs.Steps.{Steps}
use Rattle.xt_driver.specs.Stands.{Agrees, missing, if_supplied, work, Level, supply_of, nested_of, IsEven, StandsSo, Stands, start_work, work_left}
use Rattle.xt_driver.proofs.Less.{referred_less, referred_at}
use Rattle.xt_driver.proofs.Given.{agrees_begun, agrees_with, hand_more, found_last}
use Rattle.xt_driver.proofs.Owns.{own_passes, passes_streams, passes_even, entered_even, work_passes, passes_more, work_less}

abbrev Ask : Type 0
Ask = Question NodeRef → Answer NodeRef

abbrev all : Level → Owned NodeRef
all l = own l.setting.ask (supply_of l) (nested_of l) l.below (plan_of l.setting.same l.call) at_start

-- all of it is what its call means
pub means_all : (l : Level) → whole (all l) ≡ meaning l.setting (suc l.below) l.past zero l.call
means_all l = filled_whole l.setting.ask (supply_of l) (nested_of l) l.below (plan_of l.setting.same l.call)

-- at the start
pub stands_begun : (l : Level) (p : Progress) → l.setting.same ≡ same_ref → p ≡ started l.call l.below → Stands l p None []
stands_begun l p same e =
    let P : Progress → Type 0 = λ q. Stands l q None [] in
    let begun : own l.setting.ask (supply_of l) (nested_of l) l.below (plan_of same_ref l.call) at_start ≡ all l
    = ap (λ (same : NodeRef → NodeRef → Bool). own l.setting.ask (supply_of l) (nested_of l) l.below (plan_of same l.call) at_start) (sym same) in
    subst P (sym e) (record { room = refl; so = (begun, agrees_begun l.call (referred l.setting (meaning l.setting l.below) l.past), refl, refl) })

-- a run that goes on stands so, and pauses less often
pub record Onto (l : Level) (p q : Progress) (gift next : Option (Gift NodeRef)) (ss : List Stream) : Type 0 where
  pub stands : Stands l q next ss
  pub less : work_left l q next < work_left l p gift

onto_of : {l : Level} {p q : Progress} {gift next : Option (Gift NodeRef)} {ss : List Stream} (st : Start NodeRef) (w : Waiting NodeRef) (s : Supplies NodeRef)
    → q.room ≡ l.below → q.waits ≡ w → q.supplies ≡ s → received w q.going s next ≡ st → StandsSo l q.left ss st → start_work l q.left st < work_left l p gift → Onto l p q gift next ss
onto_of {l = l} {p = p} {q = q} {gift = gift} {next = next} {ss = ss} st w s room e f same so less =
    let is : received q.waits q.going q.supplies next ≡ st = ap (λ x. received x q.going q.supplies next) e ∙ ap (λ x. received w q.going x next) f ∙ same in
    let P : Start NodeRef → Type 0 = λ x. StandsSo l q.left ss x in
    let Q : Start NodeRef → Type 0 = λ x. start_work l q.left x < work_left l p gift in
    record { stands = record { room = room; so = subst P (sym is) so }; less = subst Q (sym is) less }

pub in_room : {ask : Ask} {hand : ℕ → Wanted → Option (Given NodeRef)} {room below : ℕ} {a b : Plan NodeRef} {g h : Going NodeRef} → room ≡ below → Passes ask hand room a g b h → Passes ask hand below a g b h
in_room {ask = ask} {hand = hand} {a = a} {b = b} {g = g} {h = h} e s = let P : ℕ → Type 0 = λ r. Passes ask hand r a g b h in subst P e s

-- ---- After an instantiation that it enters

-- what is left after it, by what comes of it
abbrev after : Level → Progress → Call NodeRef → ℕ → Outcome NodeRef → Owned NodeRef
after l q k d o =
    unless_halted (own l.setting.ask (supply_of l) (nested_of l) l.below q.left (given o.content (opened k d q.going))) (given o.content (opened k d q.going)) o.ending

abbrev work_after : Level → Progress → Supplies NodeRef → Call NodeRef → ℕ → Outcome NodeRef → ℕ
work_after l q s k d o = suc (work l.setting.ask (supply_of l) (nested_of l) l.below (at_hand s) q.left (given o.content (opened k d q.going)))

-- where it was entered
record Entering (l : Level) (p q : Progress) (gift : Option (Gift NodeRef)) (ss : List Stream) (s : Supplies NodeRef) (k : Call NodeRef) (d : ℕ) (o : Outcome NodeRef) : Type 0 where
  left : after l q k d o ≡ all l
  works : work_left l p gift ≡ work_after l q s k d o
  agrees : Agrees (supply_of l) (at_hand s)
  streams : q.going.streams ≡ ss
  even : IsEven q.going
  room : q.room ≡ l.below
  waits : q.waits ≡ ForCall k d
  supplies : q.supplies ≡ s

goes_on : {l : Level} {p q : Progress} {gift next : Option (Gift NodeRef)} {ss : List Stream} {s : Supplies NodeRef} {k : Call NodeRef} {d : ℕ} (o : Outcome NodeRef)
    → Entering l p q gift ss s k d o → next ≡ Some (gift_for o.content o.ending) → Onto l p q gift next (ss ++ o.content ∷ [])
goes_on {l = l} {p = p} {q = q} {gift = gift} {next = next} {ss = ss} {s = s} {k = k} {d = d} o h n = by_ending o.content o.ending h n
  where
    on : (t : Stream) (x : Ending NodeRef) → Entering l p q gift ss s k d (record { content = t; ending = x })
        → own l.setting.ask (supply_of l) (nested_of l) l.below q.left (given t (opened k d q.going)) ≡ all l
        → received (ForCall k d) q.going s next ≡ Goes (given t (opened k d q.going)) s → Onto l p q gift next (ss ++ t ∷ [])
    on t x h left same =
        let works = h.works in
        onto_of (Goes (given t (opened k d q.going)) s) (ForCall k d) s h.room h.waits h.supplies same
        (left, h.agrees, ap (λ xs. xs ++ t ∷ []) h.streams, entered_even k d t q.going h.even) (omega (arith, works))

    by_ending : (t : Stream) (x : Ending NodeRef) → Entering l p q gift ss s k d (record { content = t; ending = x }) → next ≡ Some (gift_for t x) → Onto l p q gift next (ss ++ t ∷ [])
    by_ending t Finished h n = on t Finished h h.left (ap (received (ForCall k d) q.going s) n)
    by_ending t (Gave v) h n = on t (Gave v) h h.left (ap (received (ForCall k d) q.going s) n)
    by_ending t (Halted why) h n =
        let works = h.works in
        onto_of (Halts why (given t (opened k d q.going))) (ForCall k d) s h.room h.waits h.supplies (ap (received (ForCall k d) q.going s) n) (ap whole (sym h.left)) (omega (arith, works))

pub stands_want : (l : Level) (p q : Progress) (gift : Option (Gift NodeRef)) (ss : List Stream) (w : Rc CodeCall Allocator) (d : ℕ) (o : Outcome NodeRef) (next : Option (Gift NodeRef))
    → Stands l p gift ss → Advances l.setting.ask gift p q (Ok (Want w d)) → nested_of l d (call_of w.value) ≡ o → next ≡ Some (gift_for o.content o.ending) → Onto l p q gift next (ss ++ o.content ∷ [])
stands_want l p q gift ss w d o next h a m n = go (received p.waits p.going p.supplies gift) refl h.so a.so
  where
    go : (st : Start NodeRef) → received p.waits p.going p.supplies gift ≡ st → StandsSo l p.left ss st → AdvancesSo l.setting.ask p st q (Ok (Want w d)) → Onto l p q gift next (ss ++ o.content ∷ [])
    go (Halts why g) is so adv = absurd adv
    go (Goes g s) is so adv =
        let passes = in_room h.room adv.0 in
        let k = call_of w.value in
        let left = ap (after l q k d) (sym m) ∙ sym (own_passes l.setting.ask (supply_of l) (nested_of l) l.below so.1 passes) ∙ so.0 in
        let works = ap (start_work l p.left) is ∙ work_passes l.setting.ask (supply_of l) (nested_of l) l.below so.1 passes ∙ ap (work_after l q s k d) m in
        let e : Entering l p q gift ss s k d o = record {
          left = left;
          works = works;
          agrees = so.1;
          streams = passes_streams passes ∙ so.2;
          even = passes_even passes so.3;
          room = adv.3 ∙ h.room;
          waits = adv.2;
          supplies = adv.1;
        } in
        goes_on o e n

-- ---- After a global that an expression needs

pub stands_global : (l : Level) (p q : Progress) (gift : Option (Gift NodeRef)) (ss : List Stream) (n : Expanded) (d : ℕ) (place : CodePlace) (e : Entered)
    → Stands l p gift ss → Advances l.setting.ask gift p q (Ok (WantGlobal n d place)) → Gives e (place_of place) (referred l.setting (meaning l.setting l.below) l.past n d (place_of place)) → Onto l p q gift (gift_of (Some e)) ss
stands_global l p q gift ss n d place e h a gives = go (received p.waits p.going p.supplies gift) refl h.so a.so
  where
    go : (st : Start NodeRef) → received p.waits p.going p.supplies gift ≡ st → StandsSo l p.left ss st → AdvancesSo l.setting.ask p st q (Ok (WantGlobal n d place)) → Onto l p q gift (gift_of (Some e)) ss
    go (Halts why g) is so adv = absurd adv
    go (Goes g s) is so adv = by_given e gives.so so adv (ap (start_work l p.left) is)
      where
        failed : (w : Refused) (x : Option (Gift NodeRef)) → received (ForGlobal n d (place_of place)) q.going s x ≡ Halts w q.going → referred l.setting (meaning l.setting l.below) l.past n d (place_of place) ≡ Failed w
            → StandsSo l p.left ss (Goes g s) → GoesSo l.setting.ask p g s q (Ok (WantGlobal n d place)) → work_left l p gift ≡ start_work l p.left (Goes g s) → Onto l p q gift x ss
        failed w x same supply so adv start =
            let passes = in_room h.room adv.0 in
            let m = adv.1 in
            let misses = in_room h.room m.passes in
            let F : Given NodeRef → ℕ = λ u. missing (at_hand s d (Global n)) + work l.setting.ask (supply_of l) (nested_of l) l.below (at_hand s) (m.next u) (noted (Saw (Global n) d (place_of place) (Known u)) m.last) in
            let K : Supplied NodeRef → Owned NodeRef = λ y. if_known (λ u. own l.setting.ask (supply_of l) (nested_of l) l.below (m.next u) (noted (Saw (Global n) d (place_of place) y) m.last)) (noted (Saw (Global n) d (place_of place) y) m.last) y in
            let before = start ∙ work_passes l.setting.ask (supply_of l) (nested_of l) l.below so.1 passes ∙ work_passes l.setting.ask (supply_of l) (nested_of l) l.below so.1 misses ∙ ap (if_supplied F) supply in
            let is = sym so.0 ∙ own_passes l.setting.ask (supply_of l) (nested_of l) l.below so.1 passes ∙ own_passes l.setting.ask (supply_of l) (nested_of l) l.below so.1 misses ∙ ap K supply in
            let content = ap (λ t. filled t m.last.streams) m.same ∙ ap (filled (closed q.going)) (passes_streams misses) in
            onto_of (Halts w q.going) (ForGlobal n d (place_of place)) s (adv.4 ∙ h.room) adv.3 adv.2 same (ap whole is ∙ ap (λ t. record { content = t; ending = Halted w }) content) (omega (arith, before))

        by_given : (x : Entered) → GivesSo x (place_of place) (referred l.setting (meaning l.setting l.below) l.past n d (place_of place)) → StandsSo l p.left ss (Goes g s) → GoesSo l.setting.ask p g s q (Ok (WantGlobal n d place))
            → work_left l p gift ≡ start_work l p.left (Goes g s) → Onto l p q gift (gift_of (Some x)) ss
        by_given (entered.Stream t) supply so adv start = absurd supply
        by_given (entered.Value v) supply so adv start =
            let V = value_of v in
            let passes = in_room h.room adv.0 in
            let m = adv.1 in
            let misses = in_room h.room m.passes in
            let agrees = agrees_with l.call (referred l.setting (meaning l.setting l.below) l.past) s n d V (λ e k less. referred_less l.setting l.below l.past n d e (place_of place) k (Valued V) less supply) so.1 in
            let X = work l.setting.ask (supply_of l) (nested_of l) l.below (at_hand s) (m.next (Valued V)) (noted (Saw (Global n) d (place_of place) (Known (Valued V))) m.last) in
            let Y = work l.setting.ask (supply_of l) (nested_of l) l.below (at_hand (supplied_with n d V s)) (m.next (Valued V)) (noted (Saw (Global n) d (place_of place) (Known (Valued V))) m.last) in
            let F : Given NodeRef → ℕ = λ u. missing (at_hand s d (Global n)) + work l.setting.ask (supply_of l) (nested_of l) l.below (at_hand s) (m.next u) (noted (Saw (Global n) d (place_of place) (Known u)) m.last) in
            let G : Given NodeRef → ℕ = λ u. missing (at_hand (supplied_with n d V s) d (Global n)) + work l.setting.ask (supply_of l) (nested_of l) l.below (at_hand (supplied_with n d V s)) (m.next u) (noted (Saw (Global n) d (place_of place) (Known u)) m.last) in
            let before = start ∙ work_passes l.setting.ask (supply_of l) (nested_of l) l.below so.1 passes ∙ work_passes l.setting.ask (supply_of l) (nested_of l) l.below so.1 misses ∙ ap (if_supplied F) supply ∙ ap (λ o. missing o + X) m.missing in
            let later = work_passes l.setting.ask (supply_of l) (nested_of l) l.below agrees (passes_more (hand_more s n d V) misses) ∙ ap (if_supplied G) supply ∙ ap (λ o. missing o + Y) (found_last n d V s.globals m.missing) in
            let fewer = work_less l.setting.ask (supply_of l) (nested_of l) (at_hand s) (at_hand (supplied_with n d V s)) l.below (m.next (Valued V)) (noted (Saw (Global n) d (place_of place) (Known (Valued V))) m.last) (hand_more s n d V) in
            onto_of (Goes q.going (supplied_with n d V s)) (ForGlobal n d (place_of place)) s (adv.4 ∙ h.room) adv.3 adv.2 refl
            (sym (own_passes l.setting.ask (supply_of l) (nested_of l) l.below so.1 passes) ∙ so.0, agrees, passes_streams passes ∙ so.2, passes_even passes so.3) (omega (arith, before, later, fewer))
        by_given (entered.Refused w t) supply so adv start = failed (refused_of w) (Some (RefusedAs (refused_of w) (stream_of t.value))) refl supply so adv start
        by_given entered.UnderWay supply so adv start = failed (circular (place_of place)) (Some IsUnderWay) refl supply so adv start

-- ---- At the end

pub own_ends : (l : Level) (e : Ending NodeRef) (g : Going NodeRef) → own l.setting.ask (supply_of l) (nested_of l) l.below (ends e) g ≡ owned g e
own_ends l Finished g = refl
own_ends l (Gave v) g = refl
own_ends l (Halted why) g = refl

-- what its run made has a hole for each stream, and with them in place of the holes it is what its call means
pub record IsDone (l : Level) (ran : Ran) (ss : List Stream) : Type 0 where
  pub even : holes (ran_of ran).content ≡ length ss
  pub means : meaning l.setting (suc l.below) l.past zero l.call ≡ record { content = filled (ran_of ran).content ss; ending = (ran_of ran).ending }

pub stands_done : (l : Level) (p q : Progress) (gift : Option (Gift NodeRef)) (ss : List Stream) (ran : Ran)
    → Stands l p gift ss → Advances l.setting.ask gift p q (Ok (Done ran)) → IsDone l ran ss
stands_done l p q gift ss ran h a = go (received p.waits p.going p.supplies gift) h.so a.so
  where
    go : (st : Start NodeRef) → StandsSo l p.left ss st → AdvancesSo l.setting.ask p st q (Ok (Done ran)) → IsDone l ran ss
    go (Halts why g) so adv = absurd adv
    go (Goes g s) so adv =
        let passes = in_room h.room adv.passes in
        let e = (ran_of ran).ending in
        let streams : adv.last.streams ≡ ss = passes_streams passes ∙ so.2 in
        let content : closed adv.last ≡ (ran_of ran).content = ap (λ (m : Made NodeRef). m.content) adv.same in
        record {
          even = ap holes (sym content) ∙ passes_even passes so.3 ∙ ap length streams;
          means = sym (means_all l) ∙ ap whole (sym so.0 ∙ own_passes l.setting.ask (supply_of l) (nested_of l) l.below so.1 passes ∙ own_ends l e adv.last)
              ∙ ap (λ xs. record { content = filled (closed adv.last) xs; ending = e }) streams ∙ ap (λ t. record { content = filled t ss; ending = e }) content;
        }

-- at a refusal
pub stands_halt : (l : Level) (p q : Progress) (gift : Option (Gift NodeRef)) (ss : List Stream) (why : CodeRefused) (t : Rc Items Allocator)
    → Stands l p gift ss → Advances l.setting.ask gift p q (Err (Refuses why t)) → whole (all l) ≡ record { content = stream_of t.value; ending = Halted (refused_of why) }
stands_halt l p q gift ss why t h a = go (received p.waits p.going p.supplies gift) h.so a.so
  where
    go : (st : Start NodeRef) → StandsSo l p.left ss st → AdvancesSo l.setting.ask p st q (Err (Refuses why t)) → whole (all l) ≡ record { content = stream_of t.value; ending = Halted (refused_of why) }
    go (Halts w g) so adv = so ∙ ap (λ x. record { content = x; ending = Halted w }) (sym adv.1) ∙ ap (λ x. record { content = stream_of t.value; ending = Halted x }) (sym adv.0)
    go (Goes g s) so adv =
        let passes = in_room h.room adv.passes in
        ap whole (sym so.0 ∙ own_passes l.setting.ask (supply_of l) (nested_of l) l.below so.1 passes) ∙ ap (λ x. record { content = x; ending = Halted (refused_of why) }) adv.content

pub stands_fault : (l : Level) (p q : Progress) (gift : Option (Gift NodeRef)) (ss : List Stream) (fault : RunFault) (x : Came)
    → Stands l p gift ss → Advances l.setting.ask gift p q (Err fault) → IsRefused fault x → outcome_of x ≡ meaning l.setting (suc l.below) l.past zero l.call
stands_fault l p q gift ss fault x h a r = go fault a r.so
  where
    go : (f : RunFault) → Advances l.setting.ask gift p q (Err f) → IsRefusedSo f x → outcome_of x ≡ meaning l.setting (suc l.below) l.past zero l.call
    go Memory b r = absurd r
    go (Refuses why t) b r = r ∙ sym (stands_halt l p q gift ss why t h b) ∙ means_all l

-- ---- Steps

-- a step in a world with the same truth
pub stepped : {a b : Ask} {x y : Step} (gift : Option (Gift NodeRef)) (p q : Progress) (k : Call NodeRef) (below : ℕ) → a ≡ b → x ≡ y → Steps a gift p q k below x → Steps b gift p q k below y
stepped {b = b} {x = x} gift p q k below e f h =
    let P : Ask → Type 0 = λ a. Steps a gift p q k below x in
    let Q : Step → Type 0 = λ y. Steps b gift p q k below y in
    subst Q f (subst P e h)

-- what a call means where so many levels are left is what it means from its depth, in a world with the same truth
pub meant_from : (s : Ask → Setting NodeRef) {a b : Ask} (past : Past NodeRef) (below d left : ℕ) (c k : Call NodeRef) → a ≡ b → left ≡ below - d → c ≡ k → meaning (s a) left past zero c ≡ meaning (s b) below past d k
meant_from s {b = b} past below d left c k e f same =
    ap (λ x. meaning (s x) left past zero c) e ∙ ap (λ x. meaning (s b) left past zero x) same ∙ ap (λ n. meaning (s b) n past zero k) f ∙ sym (meaning_at (s b) below past d k)

-- and so is what a reference gives
pub gives_from : (s : Ask → Setting NodeRef) {a b : Ask} (past : Past NodeRef) (below d left : ℕ) (n : Expanded) (place : Place) (e : Entered) → a ≡ b → left ≡ below - d
    → Gives e place (referred (s a) (meaning (s a) left) past n 0 place) → Gives e place (referred (s b) (meaning (s b) below) past n d place)
gives_from s {b = b} past below d left n place e same f h =
    let P : Supplied NodeRef → Type 0 = λ x. Gives e place x in
    subst P (ap (λ x. referred (s x) (meaning (s x) left) past n 0 place) same ∙ referred_at (s b) below past n d left place f) h

-- the turn of an instantiation that it enters
pub stands_entered : (l : Level) (p q : Progress) (gift : Option (Gift NodeRef)) (before after : List Stream) (w : Rc CodeCall Allocator) (d : ℕ) (came : Result (Box Came Allocator) NoMemory) (e : Option Entered)
    → Stands l p gift before → Advances l.setting.ask gift p q (Ok (Want w d)) → IfOk came (λ x. outcome_of x.value ≡ nested_of l d (call_of w.value)) → IsStreamed e came before after → Onto l p q gift (gift_of e) after
stands_entered l p q gift before after w d (Err m) e h a is so = absurd so
stands_entered l p q gift before after w d (Ok x) e h a is so =
    let onto = stands_want l p q gift before w d (outcome_of x.value) (gift_of e) h a (sym is) so.gift in
    let P : List Stream → Type 0 = λ ss. Onto l p q gift (gift_of e) ss in
    subst P (sym so.streams) onto

-- the turn of a global that it needs
pub stands_referred : (l : Level) (p q : Progress) (gift : Option (Gift NodeRef)) (ss : List Stream) (n : Needed) (d : ℕ) (came : Result (Box Referred Allocator) NoMemory) (next : Option Entered)
    → Stands l p gift ss → Advances l.setting.ask gift p q (Ok (WantGlobal n.name d n.place))
    → IfOk came (λ e. Gives e.value.entered (place_of n.place) (referred l.setting (meaning l.setting l.below) l.past n.name d (place_of n.place))) → IsTaken next came → Onto l p q gift (gift_of next) ss
stands_referred l p q gift ss n d (Err m) next h a is taken = absurd taken
stands_referred l p q gift ss n d (Ok e) next h a is taken =
    let P : Option Entered → Type 0 = λ x. Onto l p q gift (gift_of x) ss in
    subst P (sym taken) (stands_global l p q gift ss n.name d n.place e.value.entered h a is)

pub if_ok : {T E : Type 0} {P Q : T → Type 0} (r : Result T E) → IfOk r P → ((x : T) → P x → Q x) → IfOk r Q
if_ok (Ok x) h f = f x h
if_ok (Err e) h f = tt

pub on_ok : {T E Q : Type 0} {P : T → Type 0} (r : Result T E) → IfOk r P → ((x : T) → P x → Q) → OnOk r Q
on_ok (Ok x) h f = f x h
on_ok (Err e) h f = tt

pub if_on : {T E Q : Type 0} {P R : T → Type 0} (r : Result T E) → IfOk r P → OnOk r Q → ((x : T) → P x → Q → R x) → IfOk r R
if_on (Ok x) h k f = f x h k
if_on (Err e) h k f = tt
