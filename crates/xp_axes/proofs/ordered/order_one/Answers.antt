use Rattle.std.proofs.Common.{◌++◌, ◌∙◌, ap}
use Rattle.xp_axes.specs.Along.{if_taken}
use Rattle.xp_axes.proofs.Owned.{one_ordered}
use Rattle.xp_axes.proofs.ordered.order_one.Goals as goal

pub returns : goal.returns
returns c =
    c.in_ok-take_if.ensures
    ∙ ap (λ xs. xs ++ if_taken c.in_ok-is_there.is_there c.args.node.now) c.new-nodes.ensures.items
    ∙ one_ordered c.args.document.now c.distinct_numbers.ensures c.args.node.now c.in_ok-is_there.is_there c.in_ok-is_there.ensures
