use Rattle.std.proofs.Common.{ap, sym, ◌∙◌, pos}
use Rattle.std.proofs.lemmas.Result.{IfOk-weaker}
use Rattle.spec_expression.specs.Number.{Whole, text_of}
use Rattle.spec_format.specs.Format as spec
use Rattle.xt_number_format.proofs.writing.digits.Goals as goal

pub returns-in-Some : goal.returns-in-Some
returns-in-Some c =
    let written = spec.padded c.args.width (text_of (Whole (pos c.args.number))) in
    let digits = c.in_ok-digits.ensures ∙ ap (spec.padded c.args.width) (c.as_str.ensures.characters ∙ c.in_ok-decimal.ensures) in
    IfOk-weaker c.grouped.result _ _
    (λ t is. is ∙ ap (spec.grouped c.in-Some.grouping) (c.as_str-in-Some.ensures.characters ∙ digits)
    ∙ sym (ap (λ grouping. spec.grouped_by grouping written) c.in-Some.is))
    c.grouped.ensures

pub returns-in-None : goal.returns-in-None
returns-in-None c =
    let written = spec.padded c.args.width (text_of (Whole (pos c.args.number))) in
    let digits = c.in_ok-digits.ensures ∙ ap (spec.padded c.args.width) (c.as_str.ensures.characters ∙ c.in_ok-decimal.ensures) in
    digits ∙ sym (ap (λ grouping. spec.grouped_by grouping written) c.in-None.is)
