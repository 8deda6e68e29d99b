-- What a call says that runs a program.
use Rattle.std.specs.Prelude.{◌≡◌, Result, Ok, Err, Option, Some, None, IfSome}
use Rattle.spec_meaning.specs.Program.{Global, Said, Gives, Refuses, Lacks}
use Rattle.xt_questions.specs.declared.fault.EvalFault.{EvalFault}
use Rattle.xt_questions.specs.declared.fault.EvalFault.TheVariants as faults
use Rattle.xt_questions.specs.View.{refusal_of}

-- how the program ends by this result; after want of memory nothing is said
abbrev pub said_by : {A X : Type 0} → (X → A) → Result X EvalFault → Option (Said A)
said_by view (Ok x) = Some (Gives (view x))
said_by view (Err (faults.Refused why)) = Some (Refuses (refusal_of why))
said_by view (Err (faults.Wants name)) = Some (Lacks (Global name))
said_by view (Err faults.Memory) = None

-- it says this, unless it is want of memory
abbrev pub Says : {A X : Type 0} → (X → A) → Result X EvalFault → Said A → Type 0
Says view result said = IfSome (said_by view result) (λ other. other ≡ said)
