use Rattle.std.proofs.Common.{◌≡◌, drop}
use Rattle.xt_tree.specs.View.{forest_of, number_from}
use Rattle.xt_tree.proofs.doc.Doc.at.Given as goal

abbrev pub invariant-loop-position : goal.invariant-loop-position
invariant-loop-position l =
    number_from (drop l.position-index l.position-items) l.id.number (forest_of l.siblings) ≡ number_from l.path l.self.root l.self.nodes
