-- Node-sets in a run: what an instantiation passes to what it enters, and what a global holds.
use Rattle.std.specs.Prelude.{◌≡◌, ℕ, Bool, List, [], ◌∷◌, ◌++◌}
use Rattle.spec_stylesheet.specs.Place.{Place}
use Rattle.spec_meaning.specs.Stream.{Stream}
use Rattle.spec_meaning.specs.Value.{Value}
use Rattle.spec_meaning.specs.Question.{Question, Answer}
use Rattle.spec_meaning.specs.Program.{Wanted, Given, value_in}
use Rattle.spec_meaning.specs.Context.{Bound}
use Rattle.spec_run.specs.Plan as plan
use Rattle.spec_run.specs.Plan.{Refused, nowhere, Call, Wrapping, Plan}
use Rattle.spec_run.specs.Direct.{Supplied, Known, Failed}
use Rattle.spec_run.specs.Meaning.{NamedGlobal, Setting, going_into, held_by, global_call, meaning, at_turn, value_of}
use Rattle.spec_order.specs.NodeSet.{IsInOrder, AnswersInOrder, VariablesAreInOrder}

-- A plan that passes to what it enters values in order alone, and yields a value in order, whatever it is answered in order, and whatever in order it
-- is given of its run
pub data KeepsOrder {N : Type 0} (before : N → N → Bool) : Plan N → Type 0 where
  ends : KeepsOrder before plan.End
  yields : {v : Value N} → IsInOrder before v → KeepsOrder before (plan.Yield v)
  stops : {why : Refused} → KeepsOrder before (plan.Stop why)
  inquires : {q : Question N} {next : Answer N → Plan N} → ((a : Answer N) → AnswersInOrder before q a → KeepsOrder before (next a))
      → KeepsOrder before (plan.Inquire q next)
  uses : {w : Wanted} {depth : ℕ} {place : Place} {next : Given N → Plan N}
      → ((g : Given N) → IsInOrder before (value_in g) → KeepsOrder before (next g)) → KeepsOrder before (plan.Use w depth place next)
  puts : {items : Stream} {next : Plan N} → KeepsOrder before next → KeepsOrder before (plan.Put items next)
  begins : {next : Plan N} → KeepsOrder before next → KeepsOrder before (plan.Begin next)
  wraps : {how : Wrapping} {next : Plan N} → KeepsOrder before next → KeepsOrder before (plan.Wrap how next)
  takes : {next : Stream → Plan N} → ((s : Stream) → KeepsOrder before (next s)) → KeepsOrder before (plan.Take next)
  goes_deep : {depth : ℕ} {place : Place} {next : Plan N} → KeepsOrder before next → KeepsOrder before (plan.Deep depth place next)
  enters : {c : Call N} {depth : ℕ} {next : Plan N} → VariablesAreInOrder before c.parameters → KeepsOrder before next
      → KeepsOrder before (plan.Enter c depth next)

-- what a run gives where a global is referred to, unless it is refused
abbrev pub IsGivenInOrder : {N : Type 0} → (N → N → Bool) → Supplied N → Type 0
IsGivenInOrder before (Known g) = IsInOrder before (value_in g)
IsGivenInOrder before (Failed why) = Unit {0}

-- the globals whose turn is past, with what they hold, wherever a run with so many levels has come in its globals
pub data ArePast {N : Type 0} (s : Setting N) (levels : ℕ) : List (Bound N) → Type 0 where
  none_yet : ArePast s levels []
  one_more : {values : List (Bound N)} {given : Given N} → (g : NamedGlobal N) → ArePast s levels values
      → held_by (meaning s levels (going_into g.name (at_turn values)) 0 (global_call s.root g.element nowhere)) ≡ Known given
      → ArePast s levels (values ++ record { name = g.name; value = value_of given } ∷ [])
