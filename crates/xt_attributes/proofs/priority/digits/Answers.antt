use Rattle.std.proofs.Common.{arith}
use Rattle.spec_expression.specs.Token.{is_digit}
use Rattle.xt_attributes.proofs.Digits.{all_pass}
use Rattle.xt_attributes.proofs.priority.digits.Goals as goal

pub returns-clause-digits : goal.returns-clause-digits
returns-clause-digits c = all_pass is_digit c.loop-end.end c.args.text.now (omega (arith, c.loop-end.invariant.counted))
