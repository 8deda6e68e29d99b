use Rattle.std.proofs.Common.{◌≡◌, ◌+◌, take, min}
use Rattle.spec_expression.specs.Number.{decimal, greatest}
use Rattle.xt_base.proofs.reading.decimal.Given as goal

abbrev pub invariant-loop-digit : goal.invariant-loop-digit
invariant-loop-digit l = l.value ≡ min (decimal (take l.digit-index l.digits)) (greatest + 1)
