use Rattle.std.proofs.Common.{sym, subst, inr}
use Rattle.std.specs.Option.{option_map}
use Rattle.xt_tree.specs.Edit.{IsNodeAt}
use Rattle.xt_tree.specs.View.{forest_of}
use Rattle.xt_tree.proofs.Paths.{is_node_at, is_no_node}
use Rattle.xt_tree.proofs.doc.Doc.node_at.Goals as goal

pub returns-in_err-children_at : goal.returns-in_err-children_at
returns-in_err-children_at c =
    let d = c.args.self.now in
    let path = c.args.path.now in
    subst (λ r. IsNodeAt d path (option_map (λ n. n.now) r)) (sym c.from_residual-in_err-children_at.ensures)
    (inr (is_no_node d path c.in_ok-position.above.now c.in_ok-position.position.now c.in_ok-position.ensures.cases.0 c.in_err-children_at.ensures))

pub returns : goal.returns
returns c =
    is_node_at c.args.self.now c.args.path.now c.in_ok-position.above.now c.in_ok-position.position.now (forest_of c.in_ok-children_at.field-0.now)
    c.sibling_at.result c.in_ok-position.ensures.cases.0 c.in_ok-children_at.ensures c.sibling_at.ensures
