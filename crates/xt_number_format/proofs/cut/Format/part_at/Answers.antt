use Rattle.std.proofs.Common.{ap, sym, ◌∙◌, ◌==◌}
use Rattle.xt_number_format.proofs.Cutting.{part_alone, part_found, dot}
use Rattle.xt_number_format.proofs.cut.Format.part_at.Goals as goal

pub returns-then-is_empty : goal.returns-then-is_empty
returns-then-is_empty c =
    let alone = part_alone _ c.args.self.now c.args.place c.self.view_is
    (ap (λ n. n == 0) (sym c.self.inside.others.ok.0) ∙ sym c.is_empty.ensures ∙ c.if-is_empty.true) in
    record { before = dot ∙ ap (λ part. part.before) (sym alone); token = ap (λ part. part.token) (sym alone) }

pub returns : goal.returns
returns c =
    let found = part_found _ c.args.self.now c.args.place c.len.result c.min.result c.index-part.result.now c.self.view_is
    (ap (λ n. n == 0) c.len.ensures ∙ sym c.is_empty.ensures ∙ c.if-is_empty.false) (c.len.ensures ∙ c.self.inside.others.ok.0) c.min.ensures
    c.index-part.ensures in
    record { before = c.as_str.ensures.characters ∙ ap (λ part. part.before) (sym found); token = ap (λ part. part.token) (sym found) }
