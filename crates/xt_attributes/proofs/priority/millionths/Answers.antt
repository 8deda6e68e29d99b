use Rattle.std.proofs.Common.{◌+◌, ◌-◌, ◌*◌, ◌∙◌, ap, length, arith}
use Rattle.std.specs.Prelude.{◌^◌}
use Rattle.spec_expression.specs.Number.{decimal}
use Rattle.xt_attributes.proofs.Digits.{fraction_within, short, uncapped, whole_within}
use Rattle.xt_attributes.proofs.priority.millionths.Goals as goal

pub returns-clause-value : goal.returns-clause-value
returns-clause-value c =
    let whole = short c.args.whole.now c.requires.whole (whole_within c.args.whole.now c.args.fraction.now c.requires.limits) in
    let within = fraction_within c.args.whole.now c.args.fraction.now c.requires.limits in
    let fraction = short c.args.fraction.now c.requires.fraction (omega (arith, within)) in
    ap (λ n. n * 1000000 + c.scaled.result) (c.number.ensures.value ∙ uncapped (decimal c.args.whole.now) whole)
    ∙ ap (λ m. decimal c.args.whole.now * 1000000 + m)
    (c.scaled.ensures.value ∙ ap (λ n. n * 10 ^ (6 - length c.args.fraction.now)) (c.number-2.ensures.value ∙ uncapped (decimal c.args.fraction.now) fraction))
