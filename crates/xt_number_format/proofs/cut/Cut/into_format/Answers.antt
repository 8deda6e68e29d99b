use Rattle.std.proofs.Common.{ap, sym, ◌∙◌, ◌==◌}
use Rattle.xt_number_format.proofs.Cutting.{without_token, with_token, one}
use Rattle.xt_number_format.proofs.cut.Cut.into_format.Goals as goal

pub returns-then-is_empty : goal.returns-then-is_empty
returns-then-is_empty c =
    let parts = c.self.inside.parts in
    without_token parts.items c.self.inside.behind c.in_ok-from_str.field-0 c.new.result c.args.self c.self.view_is
    (ap (λ n. n == 0) (sym parts.ok.0) ∙ sym c.is_empty.ensures ∙ c.if-is_empty.true) (c.in_ok-from_str.ensures ∙ one) c.new.ensures

pub returns : goal.returns
returns c =
    let parts = c.self.inside.parts in
    with_token parts.items c.remove-first.new.self.items c.self.inside.behind c.remove-first.result c.args.self c.self.view_is
    (ap (λ n. n == 0) (sym parts.ok.0) ∙ sym c.is_empty.ensures ∙ c.if-is_empty.false) c.remove-first.ensures.value c.remove-first.ensures.items
