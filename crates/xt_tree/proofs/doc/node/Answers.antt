use Rattle.std.proofs.Common.{◌≡◌, refl, ◌∙◌}
use Rattle.std.proofs.lemmas.Simd.{map-map}
use Rattle.xt_tree.specs.View.{Tree, tree_of, content_of, forest_of, node_step}
use Rattle.xt_tree.specs.declared.node.Node.{Node, Node-F, roll-Node, fold-roll-Node}
use Rattle.xt_tree.proofs.doc.node.Goals as goal

rolled : (n : Node-F Node)
    → tree_of (roll-Node n) ≡ record { number = n.id.number; content = content_of n.content.value; children = forest_of n.children.items }
rolled n = fold-roll-Node Tree node_step n ∙ rw map-map refl

pub returns : goal.returns
returns c = rolled _
