-- What the results of arithmetic stand for, and which operators compare.
use Rattle.std.specs.Prelude.{Bool, true, false, Result, Ok, Err}
use Rattle.spec_expression.specs.declared.Operator.{Operator}
use Rattle.spec_expression.specs.declared.Operator.TheVariants as op
use Rattle.spec_expression.specs.Number.{Number, Fault}
use Rattle.xt_base.specs.declared.num.NumFault.{NumFault}
use Rattle.xt_base.specs.Fault.{fault_of}

abbrev pub result_of : Result Number NumFault → Result Number Fault
result_of (Ok number) = Ok number
result_of (Err fault) = Err (fault_of fault)

abbrev pub is_comparison : Operator → Bool
is_comparison op.Equal = true
is_comparison op.NotEqual = true
is_comparison op.Less = true
is_comparison op.LessOrEqual = true
is_comparison op.Greater = true
is_comparison op.GreaterOrEqual = true
is_comparison _ = false
