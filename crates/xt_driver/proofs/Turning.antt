-- What globals come to at their turns, and what is remembered then.
use Rattle.std.proofs.Common.{◌≡◌, ℕ, ◌<◌, ◌≤◌, List, [], ◌∷◌, length, map, get_or, Option, Some, None, Result, Ok, Err, true, sym, ap, subst, ◌∙◌, arith}
use Rattle.std.specs.Prelude.{◌&&◌, nat_le, IfOk, OnOk, Box}
use Rattle.std.specs.declared.alloc.Global.{Global as Allocator}
use Rattle.std.proofs.lemmas.Bool.Decides.{nat_tests}
use Rattle.spec_document.specs.Name.{Expanded, same_name}
use Rattle.spec_meaning.specs.Value.{Value}
use Rattle.spec_meaning.specs.Question.{Question, Answer}
use Rattle.spec_meaning.specs.Program.{Valued}
use Rattle.spec_meaning.specs.Context.{Bound}
use Rattle.spec_run.specs.Plan.{Call, nowhere}
use Rattle.spec_run.specs.Direct.{Supplied, Known, Failed, Outcome}
use Rattle.spec_run.specs.Meaning as means
use Rattle.spec_run.specs.Meaning.{Setting, Past, at_turn, going_into, global_call, held_by, meaning}
use Rattle.spec_node.specs.declared.node_ref.NodeRef.{NodeRef}
use Rattle.xt_engine.specs.declared.call.Refused.{Refused}
use Rattle.xt_engine.specs.declared.global.NamedGlobal.{NamedGlobal}
use Rattle.xt_text.specs.declared.memory.Memory.{Memory as NoMemory}
use Rattle.xt_driver.specs.declared.globals.HeldGlobal.{HeldGlobal}
use Rattle.xt_driver.specs.declared.memo.Remembered.{Remembered}
use Rattle.xt_driver.specs.declared.memo.Turned.{Turned}
use Rattle.xt_driver.specs.declared.came.Outcome.{Outcome as Came}
use Rattle.xt_driver.specs.declared.outcome.Held.{Held}
use Rattle.xt_driver.specs.declared.outcome.Held.TheVariants as held
use Rattle.xt_driver.specs.View.{held_of, setting_in, outcome_of, supplied_of}
use Rattle.xt_driver.specs.Remembered.{Entry, Comes, Holds, Remembers, Keeps, Forgets}
use Rattle.xt_driver.specs.Referring.{entry_of}
use Rattle.xt_driver.specs.Turning.{later, RemembersOn, HeldAs, IsTurnedAs, meant_in, Turns, RecallsTurnSo, RecallsTurn, TurnsAs, IsHeldAs}
use Rattle.xt_driver.proofs.Given.{equal_names}
use Rattle.xt_driver.proofs.Remembering.{nothing_remembered, remembers_inside}
use Rattle.xt_driver.proofs.Referring.{both, hold_at}
use Rattle.xt_driver.proofs.Later.{comes_at_turn, later_evaluated, later_remembered}

abbrev Ask : Type 0
Ask = Question NodeRef → Answer NodeRef

-- ---- One that is remembered

turns_recalled : (s : Setting NodeRef) (past : Past NodeRef) (m : List (Entry NodeRef)) (e : Entry NodeRef) (g : means.NamedGlobal NodeRef) (levels : ℕ) (t : Turned)
    → Remembers s past m → Holds s past.values m e → e.name ≡ g.name → e.element ≡ Some g.element → e.levels ≤ levels → IsTurnedAs t e → Turns t s past g levels m
turns_recalled s past m e g levels t h holds named is low as_entry =
    record { turned = record { held = both_ways.0; content = as_entry.content ∙ sym comes.content ∙ ap (λ n. (there n).content) named }; remembers = both_ways.1 }
  where
    there : Expanded → Outcome NodeRef
    there n = meaning s levels (going_into n past) 0 (global_call s.root g.element nowhere)

    comes : Comes e (there e.name)
    comes = comes_at_turn s past m e g.element levels holds h.fits is low

    go : (x : Held) → HeldAs x e → (supplied_of x ≡ held_by (meant_in s past g levels)) × RemembersOn s past g (supplied_of x) m
    go (held.Refused why t) v = absurd v
    go (held.Value x) v =
        let P : Expanded → Value NodeRef → Type 0 = λ n y. Remembers s (later past (record { name = n; value = y })) m in
        let Q : Expanded → Type 0 = λ n. P n e.value in (
          ap (λ y. Known (Valued y)) v ∙ sym comes.held ∙ ap (λ n. held_by (there n)) named,
          subst (P g.name) (sym v) (subst Q named (later_remembered s past m e g.element holds is h)),
        )

    both_ways : (supplied_of t.held ≡ held_by (meant_in s past g levels)) × RemembersOn s past g (supplied_of t.held) m
    both_ways = go t.held as_entry.held

pub recalls_turn : (es : List Remembered) (i : ℕ) (d e : Remembered) (g : means.NamedGlobal NodeRef) (levels : ℕ) (t : Turned)
    → i < length es → e ≡ get_or es i d → (nat_le e.levels levels && same_name e.name g.name) ≡ true → e.element ≡ Some g.element → IsTurnedAs t (entry_of e) → RecallsTurn (Some t) g levels (map entry_of es)
recalls_turn es i d e g levels t l is known element as_entry = record {
  so = λ s past h.
      let found = both (nat_le e.levels levels) (same_name e.name g.name) known in
      let first = found.0 in
      let low : e.levels ≤ levels = grind (arith, nat_tests) in
      let all = map entry_of es in
      let P : Remembered → Type 0 = λ x. Holds s past.values all (entry_of x) in
      turns_recalled s past all (entry_of e) g levels t h (subst P (sym is) (hold_at s past.values all es i d l h.hold)) (equal_names e.name g.name found.1) element low as_entry;
}

pub turned_at_once : (t : Turned) (found : Option Turned) (g : means.NamedGlobal NodeRef) (levels : ℕ) (m : List (Entry NodeRef)) (s : Setting NodeRef) (past : Past NodeRef)
    → RecallsTurn found g levels m → found ≡ Some t → Remembers s past m → Turns t s past g levels m
turned_at_once t found g levels m s past h is k = let P : Option Turned → Type 0 = λ x. RecallsTurnSo x s past g levels m in subst P is (h.so s past k)

pub nothing_yet : {N : Type 0} (s : Setting N) (past : Past N) {m : List (Entry N)} → m ≡ [] → Remembers s past m
nothing_yet {N = N} s past e = let P : List (Entry N) → Type 0 = λ x. Remembers s past x in subst P (sym e) (nothing_remembered s past)

-- ---- One that is evaluated

pub remembers_forgot : (s : Setting NodeRef) (past : Past NodeRef) (name : Expanded) {old new : List (Entry NodeRef)} → Forgets name old new → Remembers s past old → Remembers s (going_into name past) new
remembers_forgot s past name f h = remembers_inside s past name f.is h

pub evaluated_turns : (s : Setting NodeRef) (past : Past NodeRef) (g : means.NamedGlobal NodeRef) (under : List Expanded) (levels : ℕ) (call : Call NodeRef) (m n : List (Entry NodeRef))
    (came : Result (Box Came Allocator) NoMemory) (result : Result Turned NoMemory)
    → under ≡ g.name ∷ past.under → call ≡ global_call s.root g.element nowhere
    → OnOk came (Keeps s (record { values = past.values; under = under }) m n) → IfOk came (λ o. outcome_of o.value ≡ meaning s levels (record { values = past.values; under = under }) 0 call)
    → IfOk result (λ t. TurnsAs t came) → IfOk result (λ t. Turns t s past g levels n)
evaluated_turns s past g under levels call m n came (Err x) e f keeps meant turns = tt
evaluated_turns s past g under levels call m n (Err x) (Ok t) e f keeps meant turns = absurd turns
evaluated_turns s past g under levels call m n (Ok o) (Ok t) e f keeps meant turns =
    let K : List Expanded → Type 0 = λ u. Keeps s (record { values = past.values; under = u }) m n in
    let kept = subst K e keeps in
    let same = meant ∙ ap (λ u. meaning s levels (record { values = past.values; under = u }) 0 call) e ∙ ap (meaning s levels (going_into g.name past) 0) f in
    record { turned = record { held = turns.held ∙ ap held_by same; content = turns.content ∙ ap (λ (x : Outcome NodeRef). x.content) same }; remembers = on kept.remembers (supplied_of t.held) }
  where
    on : Remembers s (going_into g.name past) n → (x : Supplied NodeRef) → RemembersOn s past g x n
    on h (Known given) = later_evaluated s past (record { name = g.name; value = means.value_of given }) n h
    on h (Failed why) = tt

-- ---- In a world with the same truth, where these are the values and nothing is being evaluated

pub remembers_here : (root : NodeRef) (named : List NamedGlobal) (m : List (Entry NodeRef)) {a b : Ask} {vs ws : List HeldGlobal} {us : List Expanded} → a ≡ b → vs ≡ ws → us ≡ []
    → Remembers (setting_in b root named) (at_turn (map held_of ws)) m → Remembers (setting_in a root named) (record { values = map held_of vs; under = us }) m
remembers_here root named m {a = a} {b = b} {vs = vs} {ws = ws} {us = us} e f none h =
    let P : Ask → List HeldGlobal → List Expanded → Type 0 = λ x xs ns. Remembers (setting_in x root named) (record { values = map held_of xs; under = ns }) m in
    let A : Ask → Type 0 = λ x. P x vs us in
    let B : List HeldGlobal → Type 0 = λ xs. P b xs us in
    subst A (sym e) (subst B (sym f) (subst (P b ws) (sym none) h))

pub turns_here : (root : NodeRef) (named : List NamedGlobal) (t : Turned) (g : means.NamedGlobal NodeRef) (levels : ℕ) (m : List (Entry NodeRef)) {a b : Ask} {vs ws : List HeldGlobal} {us : List Expanded} → a ≡ b → vs ≡ ws → us ≡ []
    → Turns t (setting_in a root named) (record { values = map held_of vs; under = us }) g levels m → Turns t (setting_in b root named) (at_turn (map held_of ws)) g levels m
turns_here root named t g levels m {a = a} {b = b} {vs = vs} {ws = ws} {us = us} e f none h =
    let P : Ask → List HeldGlobal → List Expanded → Type 0 = λ x xs ns. Turns t (setting_in x root named) (record { values = map held_of xs; under = ns }) g levels m in
    let A : Ask → Type 0 = λ x. P x vs us in
    let B : List HeldGlobal → Type 0 = λ xs. P b xs us in
    subst (P b ws) none (subst B f (subst A e h))

-- with its value among those that are past
pub remembers_next : (s : Setting NodeRef) (values all : List (Bound NodeRef)) (g : means.NamedGlobal NodeRef) (m : List (Entry NodeRef)) (h : Held) (r : Option Refused)
    → RemembersOn s (at_turn values) g (supplied_of h) m → r ≡ None → IsHeldAs r h g.name values all → Remembers s (at_turn all) m
remembers_next s values all g m (held.Refused why content) None on is as_value = absurd as_value
remembers_next s values all g m (held.Refused why content) (Some because) on is as_value = absurd (cc)
remembers_next s values all g m (held.Value v) (Some why) on is as_value = absurd as_value
remembers_next s values all g m (held.Value v) None on is as_value =
    let Q : List (Bound NodeRef) → Type 0 = λ xs. Remembers s (at_turn xs) m in
    subst Q (sym as_value) on
