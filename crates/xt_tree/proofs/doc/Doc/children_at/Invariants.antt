use Rattle.std.proofs.Common.{◌≡◌, drop}
use Rattle.xt_tree.specs.View.{forest_of, children_from}
use Rattle.xt_tree.proofs.doc.Doc.children_at.Given as goal

abbrev pub invariant-loop-position : goal.invariant-loop-position
invariant-loop-position l = children_from (drop l.position-index l.path) (forest_of l.siblings) ≡ children_from l.path l.self.nodes
