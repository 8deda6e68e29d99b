use Rattle.std.proofs.Common.{◌+◌, ◌∙◌, sym, ap, arith, drop, get_or}
use Rattle.std.specs.Option.{option_map}
use Rattle.std.proofs.lemmas.List.{at_drop_more, at_drop_all}
use Rattle.xt_tree.specs.View.{forest_of, children_from}
use Rattle.xt_tree.proofs.Paths.{children_nowhere, children-node_at}
use Rattle.xt_tree.proofs.doc.Doc.children_at.Goals as goal

pub returns-in_err-sibling_at : goal.returns-in_err-sibling_at
returns-in_err-sibling_at c =
    let ps = c.args.path.now in
    let f = forest_of c.loop-position.siblings.now in
    let at = sym (at_drop_more (λ rest. children_from rest f) ps c.loop-position.position-index 0 (omega arith)) ∙ c.loop-position.invariant in
    ap (option_map (λ children. forest_of children.now)) c.from_residual.ensures
    ∙ sym (children_nowhere (get_or ps c.loop-position.position-index 0) (drop (c.loop-position.position-index + 1) ps) f c.in_err-sibling_at.ensures)
    ∙ at ∙ sym (children-node_at c.args.self.now ps)

pub returns : goal.returns
returns c =
    let ps = c.args.path.now in
    let f = forest_of c.loop-position.siblings.now in
    sym (at_drop_all (λ rest. children_from rest f) ps c.loop-position.position-index (omega arith)) ∙ c.loop-position.invariant
    ∙ sym (children-node_at c.args.self.now ps)
