use Rattle.std.proofs.Common.{ap, ◌∙◌, arith}
use Rattle.std.specs.Fmt.{styled_decimal}
use Rattle.spec_expression.proofs.TwoDigits.{padded-two_digits}
use Rattle.spec_expression.proofs.code.CodeDisplay.fmt.Goals as goal

pub returns-in-Static-clause-writes : goal.returns-in-Static-clause-writes
returns-in-Static-clause-writes g c =
    let digits = ap (λ s. styled_decimal s c.number.result) c.laid_out.ensures ∙ padded-two_digits c.number.result (omega (arith, c.number.type_inv)) in
    rw (c.in-Static.is, ← c.number.ensures, ← digits) c.write.ensures.writes

pub returns-in-Dynamic-clause-writes : goal.returns-in-Dynamic-clause-writes
returns-in-Dynamic-clause-writes g c =
    let digits = ap (λ s. styled_decimal s c.number-in-Dynamic.result) c.laid_out-in-Dynamic.ensures
    ∙ padded-two_digits c.number-in-Dynamic.result (omega (arith, c.number-in-Dynamic.type_inv)) in
    rw (c.in-Dynamic.is, ← c.number-in-Dynamic.ensures, ← digits) c.write-in-Dynamic.ensures.writes
