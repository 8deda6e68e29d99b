use Rattle.std.proofs.Common.{◌∙◌, ap, arith}
use Rattle.xt_tree.specs.Remade.{with_tree}
use Rattle.xt_tree.specs.View.{forest_of, tree_of}
use Rattle.xt_tree.proofs.Changed.{same_nodes, put}
use Rattle.xt_tree.proofs.remade.with_node.Goals as goal

pub returns : goal.returns
returns c =
    let list = c.in_ok-list.list.items in
    put list c.args.position c.in_ok-made.made c.requires.0 (omega (arith, c.requires.1, c.in_ok-list.ensures.len, c.in_ok-list.list.ok.0))
    ∙ ap (λ n. with_tree c.args.position (tree_of n) (forest_of list)) c.in_ok-made.ensures.ok
    ∙ ap (with_tree c.args.position (tree_of c.args.node)) (same_nodes c.args.siblings.now list c.in_ok-list.ensures.items)
