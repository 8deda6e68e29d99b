-- A choice that is made once more.
use Rattle.std.specs.Prelude.{ℕ, Option, Result, Ok, Err}
use Rattle.xt_questions.specs.declared.fault.EvalFault.{EvalFault}
use Rattle.xt_questions.specs.declared.fault.EvalFault.TheVariants as faults

-- memory held out
abbrev pub IsMade : Result (Option ℕ) EvalFault → Type 0
IsMade (Ok number) = Unit {0}
IsMade (Err (faults.Refused why)) = Unit {0}
IsMade (Err (faults.Wants name)) = Unit {0}
IsMade (Err faults.Memory) = ⊥
