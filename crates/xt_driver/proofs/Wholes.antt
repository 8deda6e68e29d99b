-- What is counted of a whole run, turn by turn.
use Rattle.std.proofs.Common.{◌≡◌, ℕ, ◌+◌, ◌<◌, ◌≤◌, List, [], ◌∷◌, ◌++◌, length, get_or, map, drop, Option, Some, None, Result, Ok, Err, sym, ap, subst}
use Rattle.std.proofs.Common.{◌∙◌, append_assoc}
use Rattle.std.specs.Prelude.{OnOk}
use Rattle.std.proofs.lemmas.List.{append-nil, at_drop_more, at_drop_all}
use Rattle.spec_document.specs.Name.{Expanded}
use Rattle.spec_meaning.specs.Question.{Question, Answer}
use Rattle.spec_meaning.specs.Program.{Valued}
use Rattle.spec_meaning.specs.Context.{Bound}
use Rattle.spec_run.specs.Plan.{Call, nowhere}
use Rattle.spec_run.specs.Direct.{Supplied, Known, Failed}
use Rattle.spec_run.specs.Trail.{Kept}
use Rattle.spec_run.specs.Meaning as means
use Rattle.spec_run.specs.Meaning.{Setting, Past, at_turn, going_into, global_call, held_by, value_of, meaning, levels_of_a_run, root_call}
use Rattle.spec_reuse.specs.Among.{IsIn}
use Rattle.spec_reuse.specs.Instantiation.{Instantiation, entered, entered_by_run, instantiations, after_turn}
use Rattle.spec_reuse.specs.Ledger.{AllEnd, AreOfRun, Enters}
use Rattle.spec_reuse.proofs.Ends.{all_end}
use Rattle.spec_reuse.proofs.Within.{in_left, in_right}
use Rattle.spec_node.specs.declared.node_ref.NodeRef.{NodeRef}
use Rattle.xt_tree.specs.ValueView as view
use Rattle.xt_engine.specs.View.{named_of, refused_of}
use Rattle.xt_engine.specs.declared.call.Refused.{Refused}
use Rattle.xt_engine.specs.declared.global.NamedGlobal.{NamedGlobal}
use Rattle.xt_record.specs.declared.reuse.Reuse.{Reuse}
use Rattle.xt_driver.specs.declared.memo.Remembered.{Remembered}
use Rattle.xt_driver.specs.declared.memo.Turned.{Turned}
use Rattle.xt_driver.specs.declared.outcome.Held.{Held}
use Rattle.xt_driver.specs.declared.outcome.Held.TheVariants as held
use Rattle.xt_text.specs.declared.memory.Memory.{Memory}
use Rattle.xt_driver.specs.declared.globals.HeldGlobal.{HeldGlobal}
use Rattle.xt_driver.specs.View.{held_of, setting_in, supplied_of}
use Rattle.xt_driver.specs.Remembered.{Entry, Forgets}
use Rattle.xt_driver.specs.Referring.{entry_of}
use Rattle.xt_driver.specs.Turning.{HeldAs, IsHeldAs, IsTurnedAs, meant_in}
use Rattle.xt_driver.specs.Counted.{Hand, kept_by, records_of, KeepsAll, IsRecorded, AreRecorded, Counted, CountsOver, IsOfTurn, for_turn, CountedWhole}
use Rattle.xt_driver.specs.Counted.{IsWithin, KeepsOnly, StaysLikeRun}
use Rattle.xt_driver.proofs.Finding.{recorded_at, entry_in, evaluated_found, aside_ready, held_goes}
use Rattle.xt_driver.proofs.Completing.{keeps_of}
use Rattle.xt_driver.proofs.Tallying.{counted_none, counted_then}

-- ---- A turn

pub turn_from : (es : List Remembered) (n : ℕ) (d e : Remembered) (element : NodeRef) (t : Turned) → n < length es → e ≡ get_or es n d
    → e.element ≡ Some element → IsTurnedAs t (entry_of e) → IsOfTurn t element (map entry_of es)
turn_from es n d e element t l is same h =
    let P : Remembered → Type 0 = λ x. IsIn (entry_of x) (map entry_of es) in
    record { entry = entry_of e; among = subst P (sym is) (entry_in es n d l); element_is = same; held = h.held }

pub turn_recalled : (s : Setting NodeRef) (past : Past NodeRef) (g : means.NamedGlobal NodeRef) (levels : ℕ) (t : Turned) (all : List (Entry NodeRef))
    (reuse : Reuse) → IsOfTurn t g.element all → supplied_of t.held ≡ held_by (meant_in s past g levels)
    → CountsOver s past.values (for_turn s past g levels) (record { reuse = reuse; entries = all }) (record { reuse = reuse; entries = all })
turn_recalled s past g levels t all reuse from same = λ of_run ready.
    let R : Option NodeRef → Type 0 = λ o. IsRecorded s past.values (kept_by reuse) o in
    let h = subst R from.element_is (recorded_at s past.values (kept_by reuse) all from.entry from.among ready.recorded) in
    counted_none s past.values (for_turn s past g levels) reuse all all
    (evaluated_found s past (kept_by reuse) g.name levels nowhere g.element h of_run (ends t.held from.entry from.held same)) ready
  where
    ends : (h : Held) (e : Entry NodeRef) → HeldAs h e → supplied_of h ≡ held_by (meant_in s past g levels) → AllEnd s (for_turn s past g levels)
    ends (held.Value v) e is same =
        let m = meant_in s past g levels in
        all_end s levels (going_into g.name past) 0 (global_call s.root g.element nowhere)
        (held_goes m.content m.ending (Valued (view.value_of v)) (sym same))
    ends (held.Refused why content) e is same = absurd is

-- where something is forgotten before it
pub turn_forgot : (s : Setting NodeRef) (past : Past NodeRef) (g : means.NamedGlobal NodeRef) (levels : ℕ) (name : Expanded)
    (old new : List (Entry NodeRef)) (reuse : Reuse) (after : Hand) → Forgets name old new
    → CountsOver s past.values (for_turn s past g levels) (record { reuse = reuse; entries = new }) after
    → CountsOver s past.values (for_turn s past g levels) (record { reuse = reuse; entries = old }) after
turn_forgot s past g levels name old new reuse after forgets over = λ of_run ready.
    let y = over of_run (record { recorded = (aside_ready s past.values (kept_by reuse) forgets.is ready.recorded).1; within = ready.within }) in
    record { list = y.list; enters = y.enters; ran = y.ran; stands = y.stands; more = y.more; only = y.only; keeps = y.keeps; ready = y.ready }

pub turn_with : (s : Setting NodeRef) (past : Past NodeRef) (g : means.NamedGlobal NodeRef) (levels : ℕ) (under : List Expanded) (call : Call NodeRef)
    (a b : Hand) → under ≡ g.name ∷ past.under → call ≡ global_call s.root g.element nowhere
    → CountsOver s past.values (entered s levels (record { values = past.values; under = under }) 0 call) a b
    → CountsOver s past.values (for_turn s past g levels) a b
turn_with s past g levels under call a b e f over =
    let C : List Expanded → Type 0 = λ u. CountsOver s past.values (entered s levels (record { values = past.values; under = u }) 0 call) a b in
    let D : Call NodeRef → Type 0 = λ c. CountsOver s past.values (entered s levels (going_into g.name past) 0 c) a b in
    subst D f (subst C e over)

-- ---- Later

recorded_turn : (s : Setting NodeRef) (values : List (Bound NodeRef)) (records : List (Kept NodeRef)) (b : Bound NodeRef) (es : List (Entry NodeRef))
    → AreRecorded s values records es → AreRecorded s (values ++ b ∷ []) records es
recorded_turn s values records b [] h = tt
recorded_turn s values records b (e ∷ es) h = (one e.element h.0, recorded_turn s values records b es h.1)
  where
    one : (o : Option NodeRef) → IsRecorded s values records o → IsRecorded s (values ++ b ∷ []) records o
    one None k = tt
    one (Some element) k = record {
      evaluation = k.evaluation;
      place = k.place;
      more = k.more ++ b ∷ [];
      call = k.call;
      of_run = k.of_run;
      since = ap (λ vs. vs ++ b ∷ []) k.since ∙ append_assoc k.evaluation.past.values k.more (b ∷ []);
      ends = k.ends;
      found = k.found;
    }

-- so far: what is left is what is entered from here on
pub record CountedTurns (s : Setting NodeRef) (levels : ℕ) (gs : List (means.NamedGlobal NodeRef)) (values : List (Bound NodeRef)) (c : Call NodeRef)
    (is : List (Instantiation NodeRef)) (a b : Hand) : Type 0 where
  pub done : List (Instantiation NodeRef)
  pub parts : is ≡ done ++ entered_by_run s levels gs values c
  pub counted : Counted s values done a b

pub turns_begun : (s : Setting NodeRef) (levels : ℕ) (gs : List (means.NamedGlobal NodeRef)) (values : List (Bound NodeRef)) (c : Call NodeRef)
    (reuse : Reuse) (all : List (Entry NodeRef)) → values ≡ [] → all ≡ [] → IsWithin reuse
    → CountedTurns s levels gs values c (entered_by_run s levels gs [] c) (record { reuse = reuse; entries = [] }) (record { reuse = reuse; entries = all })
turns_begun s levels gs values c reuse all none empty within =
    let R : List (Entry NodeRef) → Type 0 = λ es. AreRecorded s values (kept_by reuse) es in
    record {
      done = [];
      parts = ap (λ vs. entered_by_run s levels gs vs c) (sym none);
      counted = counted_none s values [] reuse [] all (λ i h. absurd h) (record { recorded = subst R (sym empty) tt; within = within });
    }

turn_part : (s : Setting NodeRef) (levels : ℕ) (g : means.NamedGlobal NodeRef) (gs : List (means.NamedGlobal NodeRef)) (values : List (Bound NodeRef))
    (c : Call NodeRef) (x : Supplied NodeRef) → x ≡ held_by (meant_in s (at_turn values) g levels)
    → entered_by_run s levels (g ∷ gs) values c ≡ for_turn s (at_turn values) g levels
    ++ after_turn (λ given. entered_by_run s levels gs (values ++ record { name = g.name; value = value_of given } ∷ []) c) x
turn_part s levels g gs values c x is =
    ap (λ y. for_turn s (at_turn values) g levels
    ++ after_turn (λ given. entered_by_run s levels gs (values ++ record { name = g.name; value = value_of given } ∷ []) c) y) (sym is)

-- with the evaluation at the turn
turn_done : (s : Setting NodeRef) (levels : ℕ) (g : means.NamedGlobal NodeRef) (gs : List (means.NamedGlobal NodeRef)) (values : List (Bound NodeRef))
    (c : Call NodeRef) (is rest : List (Instantiation NodeRef)) (a b d : Hand) → AreOfRun s is
    → (x : CountedTurns s levels (g ∷ gs) values c is a b)
    → entered_by_run s levels (g ∷ gs) values c ≡ for_turn s (at_turn values) g levels ++ rest
    → CountsOver s values (for_turn s (at_turn values) g levels) b d
    → (is ≡ (x.done ++ for_turn s (at_turn values) g levels) ++ rest) × Counted s values (x.done ++ for_turn s (at_turn values) g levels) a d
turn_done s levels g gs values c is rest a b d of_run x part over =
    let turn = for_turn s (at_turn values) g levels in
    let all : is ≡ (x.done ++ turn) ++ rest = x.parts ∙ ap (λ l. x.done ++ l) part ∙ sym (append_assoc x.done turn rest) in
    let R : List (Instantiation NodeRef) → Type 0 = λ l. AreOfRun s l in
    let both : AreOfRun s (x.done ++ turn) = λ i m. subst R all of_run i (in_left i (x.done ++ turn) rest m) in
    let y = over (λ i m. both i (in_right i x.done turn m)) x.counted.ready in
    (all, counted_then s values x.done turn a b d both x.counted y)

pub turns_on : (s : Setting NodeRef) (levels : ℕ) (g : means.NamedGlobal NodeRef) (gs : List (means.NamedGlobal NodeRef)) (values all : List (Bound NodeRef))
    (c : Call NodeRef) (h : Held) (r : Option Refused) (is : List (Instantiation NodeRef)) (a b d : Hand) → AreOfRun s is
    → supplied_of h ≡ held_by (meant_in s (at_turn values) g levels) → r ≡ None → IsHeldAs r h g.name values all
    → CountedTurns s levels (g ∷ gs) values c is a b → CountsOver s values (for_turn s (at_turn values) g levels) b d
    → CountedTurns s levels gs all c is a d
turns_on s levels g gs values all c (held.Refused because content) None is a b d of_run same e as_value x over = absurd as_value
turns_on s levels g gs values all c (held.Refused because content) (Some why) is a b d of_run same e as_value x over = absurd (cc)
turns_on s levels g gs values all c (held.Value v) (Some why) is a b d of_run same e as_value x over = absurd as_value
turns_on s levels g gs values all c (held.Value v) None is a b d of_run same e as_value x over =
    let new : Bound NodeRef = record { name = g.name; value = view.value_of v } in
    let part = turn_part s levels g gs values c (Known (Valued (view.value_of v))) same in
    let m = turn_done s levels g gs values c is (entered_by_run s levels gs (values ++ new ∷ []) c) a b d of_run x part over in
    let next : CountedTurns s levels gs (values ++ new ∷ []) c is a d = record {
      done = x.done ++ for_turn s (at_turn values) g levels;
      parts = m.0;
      counted = record {
        list = m.1.list;
        enters = m.1.enters;
        ran = m.1.ran;
        stands = m.1.stands;
        more = m.1.more;
        only = m.1.only;
        keeps = m.1.keeps;
        ready = record { recorded = recorded_turn s values (kept_by d.reuse) new d.entries m.1.ready.recorded; within = m.1.ready.within };
      };
    } in
    let P : List (Bound NodeRef) → Type 0 = λ vs. CountedTurns s levels gs vs c is a d in
    subst P (sym as_value) next

pub turns_refused : (s : Setting NodeRef) (levels : ℕ) (g : means.NamedGlobal NodeRef) (gs : List (means.NamedGlobal NodeRef))
    (values all : List (Bound NodeRef)) (c : Call NodeRef) (h : Held) (r : Option Refused) (why : Refused) (is : List (Instantiation NodeRef)) (a b d : Hand)
    → AreOfRun s is → supplied_of h ≡ held_by (meant_in s (at_turn values) g levels) → r ≡ Some why → IsHeldAs r h g.name values all
    → CountedTurns s levels (g ∷ gs) values c is a b → CountsOver s values (for_turn s (at_turn values) g levels) b d
    → CountedWhole s is a.reuse d.reuse × KeepsAll s is d.reuse × StaysLikeRun s a.reuse d.reuse
turns_refused s levels g gs values all c (held.Value v) None why is a b d of_run same e as_refused x over = absurd (cc)
turns_refused s levels g gs values all c (held.Value v) (Some reason) why is a b d of_run same e as_refused x over = absurd as_refused
turns_refused s levels g gs values all c (held.Refused because content) None why is a b d of_run same e as_refused x over = absurd as_refused
turns_refused s levels g gs values all c (held.Refused because content) (Some reason) why is a b d of_run same e as_refused x over =
    let part = turn_part s levels g gs values c (Failed (refused_of because)) same in
    let m = turn_done s levels g gs values c is [] a b d of_run x part over in
    let E : List (Instantiation NodeRef) → Type 0 = λ l. Enters s (records_of a.reuse) m.1.list l (records_of d.reuse) in
    let all : (x.done ++ for_turn s (at_turn values) g levels) ≡ is = sym (m.0 ∙ append-nil (x.done ++ for_turn s (at_turn values) g levels)) in (
      record { list = m.1.list; enters = subst E all m.1.enters; ran = m.1.ran },
      keeps_of s (x.done ++ for_turn s (at_turn values) g levels) is d.reuse all m.1.keeps,
      m.1.only,
    )

-- the root, behind all turns
pub turns_ended : (s : Setting NodeRef) (levels : ℕ) (values : List (Bound NodeRef)) (c : Call NodeRef) (is : List (Instantiation NodeRef)) (a b d : Hand)
    → AreOfRun s is → CountedTurns s levels [] values c is a b → CountsOver s values (entered s levels (at_turn values) 0 c) b d
    → CountedWhole s is a.reuse d.reuse × KeepsAll s is d.reuse × StaysLikeRun s a.reuse d.reuse
turns_ended s levels values c is a b d of_run x over =
    let last = entered s levels (at_turn values) 0 c in
    let R : List (Instantiation NodeRef) → Type 0 = λ l. AreOfRun s l in
    let both : AreOfRun s (x.done ++ last) = subst R x.parts of_run in
    let y = over (λ i m. both i (in_right i x.done last m)) x.counted.ready in
    let m = counted_then s values x.done last a b d both x.counted y in
    let F : List (Instantiation NodeRef) → Type 0 = λ l. Enters s (records_of a.reuse) m.list l (records_of d.reuse) in (
      record { list = m.list; enters = subst F (sym x.parts) m.enters; ran = m.ran },
      keeps_of s (x.done ++ last) is d.reuse (sym x.parts) m.keeps,
      m.only,
    )

-- what is so of all that is entered with the levels of a run is so of all that a run enters
pub whole_at : (Says : List (Instantiation NodeRef) → Type 0) (s : Setting NodeRef) (levels : ℕ) → levels ≡ levels_of_a_run
    → (AreOfRun s (entered_by_run s levels s.globals [] (root_call s)) → Says (entered_by_run s levels s.globals [] (root_call s)))
    → Says (instantiations s)
whole_at Says s levels e h =
    let P : ℕ → Type 0 = λ n. AreOfRun s (entered_by_run s n s.globals [] (root_call s)) → Says (entered_by_run s n s.globals [] (root_call s)) in
    (subst P e h) (λ i m. m)

-- a fact of its own
pub only_so : {T : Type 0} (s : Setting NodeRef) (before after : Reuse) (r : Result T Memory) → OnOk r (StaysLikeRun s before after)
    → OnOk r (KeepsOnly s before after)
only_so s before after (Ok whole) h = record { so = h }
only_so s before after (Err memory) h = tt

-- ---- In a world with the same truth

abbrev Ask : Type 0
Ask = Question NodeRef → Answer NodeRef

pub root_over : {T : Type 0} (root : NodeRef) (named : List NamedGlobal) (levels : ℕ) (result : Result T Memory) (m n : Hand)
    {a b : Ask} {vs ws : List HeldGlobal} {us : List Expanded} {c k : Call NodeRef} → a ≡ b → vs ≡ ws → us ≡ [] → c ≡ k
    → OnOk result (CountsOver (setting_in a root named) (map held_of vs)
    (entered (setting_in a root named) levels (record { values = map held_of vs; under = us }) 0 c) m n)
    → OnOk result (CountsOver (setting_in b root named) (map held_of ws) (entered (setting_in b root named) levels (at_turn (map held_of ws)) 0 k) m n)
root_over root named levels result m n {a = a} {b = b} {vs = vs} {ws = ws} {us = us} {c = c} e f none same h =
    let P : Ask → List HeldGlobal → List Expanded → Call NodeRef → Type 0 = λ x xs ns d. OnOk result (CountsOver (setting_in x root named) (map held_of xs)
    (entered (setting_in x root named) levels (record { values = map held_of xs; under = ns }) 0 d) m n) in
    let A : Ask → Type 0 = λ x. P x vs us c in
    let B : List HeldGlobal → Type 0 = λ xs. P b xs us c in
    let C : List Expanded → Type 0 = λ ns. P b ws ns c in
    let D : Call NodeRef → Type 0 = λ d. P b ws [] d in
    subst D same (subst C none (subst B f (subst A e h)))

-- the next turn, and none
pub turns_next : (s : Setting NodeRef) (levels : ℕ) (named : List NamedGlobal) (n : ℕ) (g : NamedGlobal) (values : List (Bound NodeRef)) (c : Call NodeRef)
    (is : List (Instantiation NodeRef)) (a b : Hand) → n < length named → g ≡ get_or named n g
    → CountedTurns s levels (map named_of (drop n named)) values c is a b
    → CountedTurns s levels (named_of g ∷ map named_of (drop (n + 1) named)) values c is a b
turns_next s levels named n g values c is a b l e h =
    let P : List (means.NamedGlobal NodeRef) → Type 0 = λ gs. CountedTurns s levels gs values c is a b in
    subst P (at_drop_more (map named_of) named n g l ∙ ap (λ x. named_of x ∷ map named_of (drop (n + 1) named)) (sym e)) h

pub turns_none : (s : Setting NodeRef) (levels : ℕ) (named : List NamedGlobal) (n : ℕ) (values : List (Bound NodeRef)) (c : Call NodeRef)
    (is : List (Instantiation NodeRef)) (a b : Hand) → length named ≤ n
    → CountedTurns s levels (map named_of (drop n named)) values c is a b → CountedTurns s levels [] values c is a b
turns_none s levels named n values c is a b l h =
    let P : List (means.NamedGlobal NodeRef) → Type 0 = λ gs. CountedTurns s levels gs values c is a b in
    subst P (at_drop_all (map named_of) named n l) h

pub over_at : (root : NodeRef) (named : List NamedGlobal) (g : means.NamedGlobal NodeRef) (levels : ℕ) (m n : Hand)
    {a b : Ask} {vs ws : List HeldGlobal} {us : List Expanded} → a ≡ b → vs ≡ ws → us ≡ []
    → CountsOver (setting_in a root named) (map held_of vs)
    (for_turn (setting_in a root named) (record { values = map held_of vs; under = us }) g levels) m n
    → CountsOver (setting_in b root named) (map held_of ws) (for_turn (setting_in b root named) (at_turn (map held_of ws)) g levels) m n
over_at root named g levels m n {a = a} {b = b} {vs = vs} {ws = ws} {us = us} e f none h =
    let P : Ask → List HeldGlobal → List Expanded → Type 0 = λ x xs ns. CountsOver (setting_in x root named) (map held_of xs)
    (for_turn (setting_in x root named) (record { values = map held_of xs; under = ns }) g levels) m n in
    let A : Ask → Type 0 = λ x. P x vs us in
    let B : List HeldGlobal → Type 0 = λ xs. P b xs us in
    subst (P b ws) none (subst B f (subst A e h))
