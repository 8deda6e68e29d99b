use Rattle.std.proofs.Common.{ap, sym, ◌∙◌, ◌++◌}
use Rattle.spec_format.specs.Format as spec
use Rattle.xt_number_format.proofs.Written.{no_number, all_numbers}
use Rattle.xt_number_format.proofs.writing.write.Goals as goal

pub returns-in_default : goal.returns-in_default
returns-in_default c =
    c.new-text.ensures ∙ sym (no_number c.args.format.now c.args.numbers.now c.args.grouping c.in_default.ensures.cases)

pub returns : goal.returns
returns c =
    let first = c.in-Some.first.now in
    all_numbers c.args.format.now c.args.numbers.now c.in-Some.others.now first c.args.grouping c.new-text.result c.push_str.new.self
    c.push_number.new.text c.push_others.new.text c.push_str-2.new.self c.in-Some.ensures.cases.0 c.new-text.ensures
    (c.in_ok-push_str.ensures.ok ∙ ap (λ t. c.new-text.result ++ t) (c.as_str.ensures.characters ∙ c.prefix.ensures))
    (c.in_ok-push_number.ensures ∙ ap (λ token. c.push_str.new.self ++ spec.number_text c.args.grouping token first) c.first.ensures)
    c.in_ok-push_others.ensures
    (c.in_ok-push_str-2.ensures.ok ∙ ap (λ t. c.push_others.new.text ++ t) (c.as_str-2.ensures.characters ∙ c.suffix.ensures))
