use Rattle.std.proofs.Common.{length, sym, ◌∙◌}
use Rattle.xt_edit.proofs.Placed.{some-of, some-size}
use Rattle.xt_edit.proofs.placing.next_after.Goals as goal

pub number_after-requires : goal.number_after-requires
number_after-requires c =
    let nodes = c.args.nodes.now in
    c.requires c.if-keeps.false (some-size nodes (some-of (length nodes) (sym c.is_empty.ensures ∙ c.if-is_empty.false)))
