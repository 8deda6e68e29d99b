use Rattle.std.proofs.Common.{◌≡◌, ◌+◌, ◌++◌, true, false, sym, ap, ◌∙◌, map, subst, arith, Option}
use Rattle.std.specs.Prelude.{IfOk}
use Rattle.spec_document.specs.Document.{elements_beside}
use Rattle.spec_document.specs.Fault.{Fault, least}
use Rattle.spec_document.specs.Forest.{Empty, Node, labels, plain}
use Rattle.spec_document.specs.NodeFaults.{node_faults}
use Rattle.spec_document.specs.Numbering.{number_faults}
use Rattle.spec_document.specs.Place.{scope_at}
use Rattle.spec_edit.specs.Edit.{depth_of, without_lines}
use Rattle.xt_tree.specs.View.{content_of, forest_of, tree_of}
use Rattle.xt_edit.specs.Finding.{at_no_line}
use Rattle.xt_edit.specs.Moving.{new_parent}
use Rattle.xt_edit.specs.Placing.{gets_numbers}
use Rattle.xt_edit.specs.Site.{spot_in}
use Rattle.xt_edit.proofs.Judged.{kept_least, made_least}
use Rattle.xt_edit.proofs.Moves.{parent-at, parent-depth}
use Rattle.xt_edit.proofs.placing.branch_fault.Goals as goal

pub returns-then-gets_numbers : goal.returns-then-gets_numbers
returns-then-gets_numbers c =
    let document = c.args.document.now in
    let ends = c.args.ends in
    let node = tree_of ends.site.node.now in
    let to = spot_in ends.to.spot in
    let beside = elements_beside ends.to.parent in
    let new = new_parent document ends in
    let levels = parent-depth document to ends.to.parent c.requires.to in
    let scope : c.in_ok-around.around ≡ scope_at new = c.in_ok-around.ensures new (parent-at document to ends.to.parent c.requires.to) in
    let depth : c.depth_below-depth.result ≡ depth_of new + 1 = omega (arith, c.depth_below-depth.ensures, levels) in
    let content : content_of c.content-content.result.now ≡ node.content = c.content-content.ensures in
    let children : forest_of c.children-children.result.now ≡ node.children = c.children-children.ensures.forest in
    let anew : gets_numbers c.args.keeps beside node.content ≡ true =
    sym (c.if-gets_numbers.ensures ∙ ap (gets_numbers c.args.keeps beside) content) in
    subst (λ (x : Option Fault). IfOk c.tree_fault.result (λ found. at_no_line found ≡ x))
    ((λ i. let tree = without_lines (Node tt (content i) (plain (children i)) Empty) in
    least (node_faults (scope i) (depth i) tree ++ number_faults c.args.first.number (map (λ l. l.first) (labels tree))))
    ∙ made_least c.args.keeps c.args.first.number beside (scope_at new) (depth_of new + 1) node.content node.children anew)
    c.tree_fault.ensures

pub returns : goal.returns
returns c =
    let document = c.args.document.now in
    let ends = c.args.ends in
    let node = tree_of ends.site.node.now in
    let to = spot_in ends.to.spot in
    let beside = elements_beside ends.to.parent in
    let new = new_parent document ends in
    let levels = parent-depth document to ends.to.parent c.requires.to in
    let scope : c.in_ok-around.around ≡ scope_at new = c.in_ok-around.ensures new (parent-at document to ends.to.parent c.requires.to) in
    let depth : c.depth_below-depth.result ≡ depth_of new + 1 = omega (arith, c.depth_below-depth.ensures, levels) in
    let content : content_of c.content-content.result.now ≡ node.content = c.content-content.ensures in
    let children : forest_of c.children-children.result.now ≡ node.children = c.children-children.ensures.forest in
    let stays : gets_numbers c.args.keeps beside node.content ≡ false =
    sym (c.if-gets_numbers.ensures ∙ ap (gets_numbers c.args.keeps beside) content) in
    subst (λ (x : Option Fault). IfOk c.nodes_fault.result (λ found. at_no_line found ≡ x))
    ((λ i. least (node_faults (scope i) (depth i) (without_lines (Node 0 (content i) (children i) Empty))))
    ∙ kept_least c.args.keeps c.args.first.number beside (scope_at new) (depth_of new + 1) node.content node.children stays)
    c.nodes_fault.ensures
