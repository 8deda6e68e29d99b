use Rattle.std.proofs.Common.{◌≡◌, ◌∙◌, ap, arith, length}
use Rattle.spec_document.specs.Order.{entries_of}
use Rattle.spec_meaning.specs.Step.{ordered}
use Rattle.spec_node.specs.Naming.{ref_of, same_ref}
use Rattle.xp_axes.proofs.Reached.{more_known}
use Rattle.xp_axes.proofs.Owned.{one_of}
use Rattle.xp_axes.proofs.ordered.order.Goals as goal

pub returns-then-nodes-eq1 : goal.returns-then-nodes-eq1
returns-then-nodes-eq1 c =
    let nodes = c.args.nodes.now in
    let one : length nodes ≡ 1 = omega (arith, c.if-nodes-eq1.true) in
    more_known _ _ c.order_one.result
    (λ out known. known ∙ ap (ordered ref_of same_ref (entries_of c.args.document.now)) (one_of nodes _ one)) c.order_one.ensures
