-- The turns of globals.
use Rattle.std.proofs.Common.{◌≡◌, ℕ, ◌+◌, ◌<◌, ◌≤◌, List, [], ◌∷◌, ◌++◌, length, map, drop, get_or, Option, Some, None, Result, Ok, Err, sym, ap, refl, ◌∙◌}
use Rattle.std.specs.Prelude.{IfOk, Box}
use Rattle.std.specs.declared.alloc.Global.{Global as Allocator}
use Rattle.std.proofs.lemmas.List.{at_drop_more, at_drop_all, map-append}
use Rattle.spec_document.specs.Name.{Expanded}
use Rattle.spec_meaning.specs.Stream.{Stream, Ended}
use Rattle.spec_meaning.specs.Question.{Question, Answer}
use Rattle.spec_meaning.specs.Program.{Valued}
use Rattle.spec_meaning.specs.Context.{Bound}
use Rattle.spec_result.specs.Recovery.{messages_of}
use Rattle.spec_run.specs.Plan.{Call, nowhere}
use Rattle.spec_run.specs.Direct.{Supplied, Known, Failed, Outcome}
use Rattle.spec_run.specs.Meaning as means
use Rattle.spec_run.specs.Meaning.{Setting, Past, Whole, going_into, global_call, held_by, value_of, refusal_of, at_turn, after_turn, meaning, run}
use Rattle.spec_node.specs.declared.node_ref.NodeRef.{NodeRef}
use Rattle.xt_tree.specs.ValueView as view
use Rattle.xt_engine.specs.View.{refused_of, named_of}
use Rattle.xt_engine.specs.declared.call.Refused.{Refused}
use Rattle.xt_engine.specs.declared.global.NamedGlobal.{NamedGlobal}
use Rattle.xt_text.specs.declared.memory.Memory.{Memory}
use Rattle.xt_driver.specs.declared.globals.HeldGlobal.{HeldGlobal}
use Rattle.xt_driver.specs.declared.came.Outcome.{Outcome as Came}
use Rattle.xt_driver.specs.declared.outcome.Held.{Held}
use Rattle.xt_driver.specs.declared.outcome.Held.TheVariants as held
use Rattle.xt_driver.specs.declared.whole.Whole.{Whole as CodeWhole}
use Rattle.xt_driver.specs.View.{held_of, setting_in, outcome_of, supplied_of, whole_of, IsFinished}
use Rattle.xt_driver.specs.Turning.{IsHeldAs}

abbrev Ask : Type 0
Ask = Question NodeRef → Answer NodeRef

-- what a global means at its turn, after those of these values
abbrev pub meant : Setting NodeRef → ℕ → means.NamedGlobal NodeRef → List (Bound NodeRef) → Outcome NodeRef
meant s levels g values = meaning s levels (going_into g.name (at_turn values)) 0 (global_call s.root g.element nowhere)

-- what a global holds at its turn, and the messages then
pub record IsTurnOf (h : Held) (o : Outcome NodeRef) (before after : List (List ℕ)) : Type 0 where
  pub held : supplied_of h ≡ held_by o
  pub told : after ≡ before ++ messages_of o.content

-- what a call means in a world with the same truth, where these are the values and nothing is being evaluated
pub root_here : (root : NodeRef) (named : List NamedGlobal) (levels : ℕ) {a b : Ask} {vs ws : List HeldGlobal} {us : List Expanded} {c k : Call NodeRef} → a ≡ b → vs ≡ ws → us ≡ [] → c ≡ k
    → meaning (setting_in a root named) levels (record { values = map held_of vs; under = us }) 0 c ≡ meaning (setting_in b root named) levels (at_turn (map held_of ws)) 0 k
root_here root named levels {b = b} {vs = vs} {ws = ws} {us = us} {c = c} e f none same =
    let M : Ask → List HeldGlobal → List Expanded → Call NodeRef → Outcome NodeRef = λ x xs ns k. meaning (setting_in x root named) levels (record { values = map held_of xs; under = ns }) 0 k in
    ap (λ x. M x vs us c) e ∙ ap (λ xs. M b xs us c) f ∙ ap (λ ns. M b ws ns c) none ∙ ap (M b ws []) same

pub turn_made : {h : Held} {o : Outcome NodeRef} {content : Stream} {told more : List (List ℕ)} → supplied_of h ≡ held_by o → content ≡ o.content → more ≡ told ++ messages_of content → IsTurnOf h o told more
turn_made {told = told} e f g = record { held = e; told = g ∙ ap (λ s. told ++ messages_of s) f }

-- the turn of one of the globals
pub next_turn : (s : Setting NodeRef) (levels : ℕ) (named : List NamedGlobal) (i : ℕ) (g : NamedGlobal) (values : List (Bound NodeRef)) (told : List (List ℕ)) (c : Call NodeRef) → i < length named → g ≡ get_or named i g
    → run s levels (map named_of (drop i named)) values told c ≡ run s levels (named_of g ∷ map named_of (drop (i + 1) named)) values told c
next_turn s levels named i g values told c h e =
    at_drop_more (λ xs. run s levels (map named_of xs) values told c) named i g h ∙ ap (λ x. run s levels (named_of x ∷ map named_of (drop (i + 1) named)) values told c) (sym e)

turn_is : (s : Setting NodeRef) (levels : ℕ) (g : means.NamedGlobal NodeRef) (gs : List (means.NamedGlobal NodeRef)) (values : List (Bound NodeRef)) (told more : List (List ℕ)) (c : Call NodeRef) (h : Held) (x : Supplied NodeRef)
    → IsTurnOf h (meant s levels g values) told more → supplied_of h ≡ x
    → run s levels (g ∷ gs) values told c ≡ after_turn (λ given. run s levels gs (values ++ record { name = g.name; value = value_of given } ∷ []) more c) more x
turn_is s levels g gs values told more c h x is e =
    let K : List (List ℕ) → Supplied NodeRef → Whole = λ t y. after_turn (λ given. run s levels gs (values ++ record { name = g.name; value = value_of given } ∷ []) t c) t y in
    ap (K (told ++ messages_of (meant s levels g values).content)) (sym is.held ∙ e) ∙ ap (λ t. K t x) (sym is.told)

-- where it is held as a value
pub turn_held : (s : Setting NodeRef) (levels : ℕ) (g : means.NamedGlobal NodeRef) (gs : List (means.NamedGlobal NodeRef)) (values all : List (Bound NodeRef)) (told more : List (List ℕ)) (c : Call NodeRef) (h : Held) (r : Option Refused)
    → IsTurnOf h (meant s levels g values) told more → r ≡ None → IsHeldAs r h g.name values all
    → run s levels gs all more c ≡ run s levels (g ∷ gs) values told c
turn_held s levels g gs values all told more c (held.Refused because content) None is e as_value = absurd as_value
turn_held s levels g gs values all told more c (held.Refused because content) (Some why) is e as_value = absurd (cc)
turn_held s levels g gs values all told more c (held.Value v) (Some why) is e as_value = absurd as_value
turn_held s levels g gs values all told more c (held.Value v) None is e as_value =
    ap (λ xs. run s levels gs xs more c) as_value ∙ sym (turn_is s levels g gs values told more c (held.Value v) (Known (Valued (view.value_of v))) is refl)

-- where it is refused
pub turn_refused : (s : Setting NodeRef) (levels : ℕ) (g : means.NamedGlobal NodeRef) (gs : List (means.NamedGlobal NodeRef)) (values all : List (Bound NodeRef)) (told more : List (List ℕ)) (c : Call NodeRef) (h : Held) (r : Option Refused) (why : Refused)
    → IsTurnOf h (meant s levels g values) told more → r ≡ Some why → IsHeldAs r h g.name values all
    → record { content = Ended; messages = more; refusal = Some (refused_of why) } ≡ run s levels (g ∷ gs) values told c
turn_refused s levels g gs values all told more c (held.Value v) None why is e as_refused = absurd (cc)
turn_refused s levels g gs values all told more c (held.Value v) (Some reason) why is e as_refused = absurd as_refused
turn_refused s levels g gs values all told more c (held.Refused because content) None why is e as_refused = absurd as_refused
turn_refused s levels g gs values all told more c (held.Refused because content) (Some reason) why is e as_refused =
    let same : because ≡ why = cc in
    sym (turn_is s levels g gs values told more c (held.Refused because content) (Failed (refused_of why)) is (ap (λ (x : Refused). Failed (refused_of x)) same))

pub values_more : (values : List HeldGlobal) (h : HeldGlobal) {all : List HeldGlobal} {b : Bound NodeRef} → all ≡ values ++ h ∷ [] → held_of h ≡ b → map held_of all ≡ map held_of values ++ b ∷ []
values_more values h e f = ap (map held_of) e ∙ map-append held_of values (h ∷ []) ∙ ap (λ x. map held_of values ++ x ∷ []) f

-- after the last turn
pub last_turn : (s : Setting NodeRef) (levels : ℕ) (named : List NamedGlobal) (i : ℕ) (values : List (Bound NodeRef)) (told : List (List ℕ)) (c : Call NodeRef) (came : Result (Box Came Allocator) Memory) (w : CodeWhole)
    → length named ≤ i → IfOk came (λ x. outcome_of x.value ≡ meaning s levels (at_turn values) 0 c) → IsFinished w told came → whole_of w ≡ run s levels (map named_of (drop i named)) values told c
last_turn s levels named i values told c (Err m) w h is f = absurd f
last_turn s levels named i values told c (Ok x) w h is f =
    f ∙ ap (λ (o : Outcome NodeRef). record { content = o.content; messages = told ++ messages_of o.content; refusal = refusal_of o.ending }) is
    ∙ sym (at_drop_all (λ xs. run s levels (map named_of xs) values told c) named i h)
