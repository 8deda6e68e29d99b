-- The faults of the code are those of the definition.
use Rattle.std.specs.Prelude.{◌≡◌, Result, Ok, Err}
use Rattle.spec_expression.specs.Number.{Fault, Fraction, Infinite, Wide}
use Rattle.xt_base.specs.declared.num.NumFault.{NumFault}
use Rattle.xt_base.specs.declared.num.NumFault.TheVariants as variant

abbrev pub fault_of : NumFault → Fault
fault_of variant.Fraction = Fraction
fault_of variant.Infinite = Infinite
fault_of variant.Wide = Wide

-- the call gives the defined answer: this value, or this fault
abbrev pub Gives : {A : Type 0} → Result A NumFault → Result A Fault → Type 0
Gives (Ok value) answer = answer ≡ Ok value
Gives (Err fault) answer = answer ≡ Err (fault_of fault)
