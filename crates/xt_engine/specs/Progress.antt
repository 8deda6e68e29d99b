-- How far a run has come, what it waits for, and where it goes on from with what it is given.
use Rattle.std.specs.Prelude.{ℕ, List, [], ◌∷◌, ◌++◌, Option, None, Some, unwrap_or}
use Rattle.spec_document.specs.Name.{Expanded}
use Rattle.spec_expression.specs.declared.code.DynCode.TheVariants as code
use Rattle.spec_stylesheet.specs.Place.{Place}
use Rattle.spec_meaning.specs.Stream.{Stream}
use Rattle.spec_meaning.specs.Value.{Value}
use Rattle.spec_meaning.specs.Supplies.{Supplies}
use Rattle.spec_run.specs.Plan.{Refused, Call, Plan}
use Rattle.spec_run.specs.Going.{Going, at_start, opened, given}
use Rattle.spec_run.specs.Meaning.{current_by}
use Rattle.spec_run.specs.Content.{plan_of}
use Rattle.spec_node.specs.declared.node_ref.NodeRef.{NodeRef}
use Rattle.spec_node.specs.Naming.{same_ref}

-- what a run waits for
pub data Waiting (N : Type 0) : Type 0 where
  ForNothing : Waiting N
  ForCall : (call : Call N) → (depth : ℕ) → Waiting N
  ForGlobal : (name : Expanded) → (depth : ℕ) → (place : Place) → Waiting N

-- what it is given for that
pub data Gift (N : Type 0) : Type 0 where
  Streamed : (content : Stream) → Gift N
  Evaluated : (value : Value N) → Gift N
  RefusedAs : (why : Refused) → (content : Stream) → Gift N
  IsUnderWay : Gift N

-- What is left of a run, what it did, what is at hand of what it needs, what it waits for, and how many levels are below its own. While it
-- waits for an instantiation, what is left comes after that; while it waits for a global, the expression that needs it is left, and nothing
-- of that is done
pub record Progress : Type 0 where
  pub left : Plan NodeRef
  pub going : Going NodeRef
  pub supplies : Supplies NodeRef
  pub waits : Waiting NodeRef
  pub room : ℕ

abbrev pub supplies_for : {N : Type 0} → Call N → Supplies N
supplies_for c = record { position = unwrap_or c.position 1; size = unwrap_or c.size 1; rule = current_by c.ruling; globals = [] }

abbrev pub started : Call NodeRef → ℕ → Progress
started c room = record { left = plan_of same_ref c; going = at_start; supplies = supplies_for c; waits = ForNothing; room = room }

-- where a run goes on from, or that it is refused
pub data Start (N : Type 0) : Type 0 where
  Goes : (going : Going N) → (supplies : Supplies N) → Start N
  Halts : (why : Refused) → (going : Going N) → Start N

abbrev pub supplied_with : {N : Type 0} → Expanded → ℕ → Value N → Supplies N → Supplies N
supplied_with name depth value s =
    record { position = s.position; size = s.size; rule = s.rule; globals = s.globals ++ record { name = name; depth = depth; value = value } ∷ [] }

-- a global that needs itself is refused where it refers to itself
abbrev pub circular : Place → Refused
circular place = record { code = code.GlobalCycle; place = place }

abbrev pub after_call : {N : Type 0} → Call N → ℕ → Going N → Supplies N → Option (Gift N) → Start N
after_call c depth g s None = Goes g s
after_call c depth g s (Some (Streamed t)) = Goes (given t (opened c depth g)) s
after_call c depth g s (Some (Evaluated v)) = Goes g s
after_call c depth g s (Some (RefusedAs why t)) = Halts why (given t (opened c depth g))
after_call c depth g s (Some IsUnderWay) = Halts (circular c.by) g

abbrev pub after_global : {N : Type 0} → Expanded → ℕ → Place → Going N → Supplies N → Option (Gift N) → Start N
after_global name depth place g s None = Goes g s
after_global name depth place g s (Some (Streamed t)) = Goes g s
after_global name depth place g s (Some (Evaluated v)) = Goes g (supplied_with name depth v s)
after_global name depth place g s (Some (RefusedAs why t)) = Halts why g
after_global name depth place g s (Some IsUnderWay) = Halts (circular place) g

abbrev pub received : {N : Type 0} → Waiting N → Going N → Supplies N → Option (Gift N) → Start N
received ForNothing g s gift = Goes g s
received (ForCall c depth) g s gift = after_call c depth g s gift
received (ForGlobal name depth place) g s gift = after_global name depth place g s gift
