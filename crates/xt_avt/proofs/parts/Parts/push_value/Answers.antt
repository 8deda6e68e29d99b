use Rattle.std.proofs.Common.{map, ap, sym, ◌++◌, [], ◌∙◌}
use Rattle.std.proofs.lemmas.List.{map-append}
use Rattle.spec_stylesheet.specs.ValueTemplate.{Value}
use Rattle.xt_syntax.specs.View.{expr_of}
use Rattle.xt_syntax.specs.PartView.{avt_part_of}
use Rattle.xt_avt.specs.Reading.{all_so, with_text}
use Rattle.xt_avt.proofs.Gathering.{so_value}
use Rattle.xt_avt.proofs.parts.Parts.push_value.Goals as goal

pub returns : goal.returns
returns c r =
    let before = c.args.self.now in
    let after = map avt_part_of c.push_text.new.parts.items in
    let value = Value (expr_of c.args.value) in
    let items = ap (map avt_part_of) (c.in_ok-push.ensures {u = tt}).items ∙ map-append avt_part_of c.push_text.new.parts.items _ in
    so_value before.refused (map avt_part_of before.parts.items) after before.text (expr_of c.args.value) r
    (λ more h. (c.in_ok-push_text.ensures {u = tt}) more h
    ∙ ap (λ t. map avt_part_of before.parts.items ++ with_text t more) c.replace-text.ensures.value)
    ∙ ap (λ ps. all_so before.refused ps [] r) (sym items)
    ∙ ap (λ t. all_so before.refused (map avt_part_of c.push.new.self.items) t r) (sym (c.replace-text.ensures.after ∙ c.new.ensures))
