use Rattle.std.proofs.Common.{subst, Some}
use Rattle.xt_tree.specs.Edit.{IsNodeAt}
use Rattle.xt_edit.specs.Site.{spot_in}
use Rattle.xt_edit.proofs.Sites.{is_at}
use Rattle.xt_edit.proofs.site.origin_at.Goals as goal

pub returns-in-Some-node_at : goal.returns-in-Some-node_at
returns-in-Some-node_at c =
    let here = c.in-Some-node_at.ensures in
    is_at c.args.document.now c.args.path.now (spot_in c.in-Some.spot) c.in-Some-node_at.node.now c.in-Some.ensures
    (subst (λ p. IsNodeAt c.args.document.now p (Some c.in-Some-node_at.node.now)) c.positions.ensures here)
