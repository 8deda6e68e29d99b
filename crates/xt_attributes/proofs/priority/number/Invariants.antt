use Rattle.std.proofs.Common.{◌≡◌, take, min}
use Rattle.spec_expression.specs.Number.{decimal}
use Rattle.xt_attributes.proofs.priority.number.Given as goal

abbrev pub invariant-loop-digit : goal.invariant-loop-digit
invariant-loop-digit l = l.value ≡ min (decimal (take l.digit-index l.digits)) 1000000000
