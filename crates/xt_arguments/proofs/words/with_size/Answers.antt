use Rattle.std.proofs.Common.{sym, ap, ◌∙◌}
use Rattle.xt_arguments.proofs.Sizes.{in_range, is_short, out_of_range, parsed}
use Rattle.xt_arguments.proofs.words.with_size.Goals as goal

pub returns-in-Ok : goal.returns-in-Ok
returns-in-Ok c =
    let short = ap is_short (sym c.as_bytes.ensures.value) ∙ sym c.is_short_number.ensures ∙ c.if-not-is_short_number.false in
    in_range c.args.word.now c.parse.result c.in-Ok.size c.parse.ensures.value.0 short c.in-Ok.is (sym c.is_in_range.ensures ∙ c.if-is_in_range.true)

pub returns-in_default : goal.returns-in_default
returns-in_default c =
    let short = ap is_short (sym c.as_bytes.ensures.value) ∙ sym c.is_short_number.ensures ∙ c.if-not-is_short_number.false in
    out_of_range c.args.word.now c.parse.result c.in-Ok.size c.parse.ensures.value.0 short c.in-Ok.is (sym c.is_in_range.ensures ∙ c.if-is_in_range.false)

pub returns-in_default-2 : goal.returns-in_default-2
returns-in_default-2 c =
    let short = ap is_short (sym c.as_bytes.ensures.value) ∙ sym c.is_short_number.ensures ∙ c.if-not-is_short_number.false in
    let is = parsed c.args.word.now c.parse.result c.parse.ensures.value.0 short in
    let not = c.in_default.is in absurd (cc)
