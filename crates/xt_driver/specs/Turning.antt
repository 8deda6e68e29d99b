-- What globals come to at their turns.
use Rattle.std.specs.Prelude.{◌≡◌, ℕ, List, [], ◌∷◌, ◌++◌, Option, Some, None, Result, Ok, Err, Box}
use Rattle.std.specs.declared.alloc.Global.{Global as Allocator}
use Rattle.spec_document.specs.Name.{Expanded}
use Rattle.spec_meaning.specs.Context.{Bound}
use Rattle.spec_run.specs.Plan.{nowhere}
use Rattle.spec_run.specs.Direct as plain
use Rattle.spec_run.specs.Direct.{Supplied, Known, Failed}
use Rattle.spec_run.specs.Meaning as means
use Rattle.spec_run.specs.Meaning.{Setting, Past, going_into, global_call, held_by, value_of, meaning}
use Rattle.spec_node.specs.declared.node_ref.NodeRef.{NodeRef}
use Rattle.xt_tree.specs.StreamView.{stream_of}
use Rattle.xt_tree.specs.ValueView as view
use Rattle.xt_engine.specs.declared.call.Refused.{Refused}
use Rattle.xt_text.specs.declared.memory.Memory.{Memory}
use Rattle.xt_driver.specs.declared.memo.Turned.{Turned}
use Rattle.xt_driver.specs.declared.came.Outcome.{Outcome}
use Rattle.xt_driver.specs.declared.outcome.Held.{Held}
use Rattle.xt_driver.specs.declared.outcome.Held.TheVariants as held
use Rattle.xt_driver.specs.View.{outcome_of, supplied_of}
use Rattle.xt_driver.specs.Remembered.{Entry, Remembers}

-- where its turn is past, with this value
abbrev pub later : {N : Type 0} → Past N → Bound N → Past N
later past b = record { values = past.values ++ b ∷ []; under = past.under }

-- what is remembered of a turn, once it is past
abbrev pub RemembersOn : {N : Type 0} → Setting N → Past N → (name : means.NamedGlobal N) → Supplied N → List (Entry N) → Type 0
RemembersOn s past g (Known given) all = Remembers s (later past (record { name = g.name; value = value_of given })) all
RemembersOn s past g (Failed why) all = Unit {0}

pub record IsTurned (t : Turned) (o : plain.Outcome NodeRef) : Type 0 where
  pub held : supplied_of t.held ≡ held_by o
  pub content : stream_of t.content.value ≡ o.content

-- what is remembered, at its turn
abbrev pub HeldAs : Held → Entry NodeRef → Type 0
HeldAs (held.Value v) e = view.value_of v ≡ e.value
HeldAs (held.Refused why content) e = ⊥

pub record IsTurnedAs (t : Turned) (e : Entry NodeRef) : Type 0 where
  pub held : HeldAs t.held e
  pub content : stream_of t.content.value ≡ e.content

abbrev pub meant_in : Setting NodeRef → Past NodeRef → means.NamedGlobal NodeRef → ℕ → plain.Outcome NodeRef
meant_in s past g levels = meaning s levels (going_into g.name past) 0 (global_call s.root g.element nowhere)

pub record Turns (t : Turned) (s : Setting NodeRef) (past : Past NodeRef) (g : means.NamedGlobal NodeRef) (levels : ℕ) (all : List (Entry NodeRef)) : Type 0 where
  pub turned : IsTurned t (meant_in s past g levels)
  pub remembers : RemembersOn s past g (supplied_of t.held) all

abbrev pub RecallsTurnSo : Option Turned → Setting NodeRef → Past NodeRef → means.NamedGlobal NodeRef → ℕ → List (Entry NodeRef) → Type 0
RecallsTurnSo None s past g levels all = Unit {0}
RecallsTurnSo (Some t) s past g levels all = Turns t s past g levels all

-- it comes to what is remembered of it
pub record RecallsTurn (t : Option Turned) (g : means.NamedGlobal NodeRef) (levels : ℕ) (all : List (Entry NodeRef)) : Type 0 where
  pub so : (s : Setting NodeRef) (past : Past NodeRef) → Remembers s past all → RecallsTurnSo t s past g levels all

-- what came at a turn
abbrev pub TurnsAs : Turned → Result (Box Outcome Allocator) Memory → Type 0
TurnsAs t (Ok o) = IsTurned t (outcome_of o.value)
TurnsAs t (Err memory) = ⊥

-- what a global holds becomes a value among the others, or this is why it has none
abbrev pub IsHeldAs : Option Refused → Held → Expanded → (before after : List (Bound NodeRef)) → Type 0
IsHeldAs None (held.Value v) name before after = after ≡ before ++ record { name = name; value = view.value_of v } ∷ []
IsHeldAs None (held.Refused why content) name before after = ⊥
IsHeldAs (Some why) (held.Value v) name before after = ⊥
IsHeldAs (Some why) (held.Refused because content) name before after = why ≡ because
