use Rattle.std.proofs.Common.{sym, ap, ◌∙◌}
use Rattle.xt_tree.specs.View.{content_of}
use Rattle.xt_tree.proofs.Views.{view-Node}
use Rattle.xt_tree.proofs.node.Node.content.Goals as goal

pub returns : goal.returns
returns c = ap content_of (c.content.ensures ∙ c.deref.ensures) ∙ ap (λ t. t.content) (sym (view-Node c.args.self.now))
