use Rattle.std.proofs.Common.{◌∙◌}
use Rattle.xt_tree.specs.View.{tree_of}
use Rattle.xt_touch.proofs.Missing.{found_there}
use Rattle.xt_touch.proofs.sight.has.Goals as goal

pub returns : goal.returns
returns c = c.is_some.ensures ∙ found_there (λ node. tree_of node.now) c.node.result c.args.node.number c.args.document.now.nodes c.node.ensures
