use Rattle.std.proofs.Common.{◌∙◌, sym, ap}
use Rattle.xt_tree.specs.View.{forest_of}
use Rattle.xt_tree.proofs.Views.{view-Node}
use Rattle.xt_tree.proofs.node.Node.children.Goals as goal

pub returns-clause-forest : goal.returns-clause-forest
returns-clause-forest c = ap forest_of c.as_slice.ensures.value ∙ ap (λ t. t.children) (sym (view-Node c.args.self.now))
