use Rattle.std.proofs.Common.{◌≡◌, ◌++◌, map, subst, arith}
use Rattle.std.specs.Prelude.{IfOk, Option}
use Rattle.spec_document.specs.Fault.{Fault, least}
use Rattle.spec_document.specs.Forest.{Empty, Node, labels, plain}
use Rattle.spec_document.specs.NodeFaults.{node_faults}
use Rattle.spec_document.specs.Numbering.{number_faults}
use Rattle.spec_edit.specs.Edit.{depth_of, scope_around, without_lines}
use Rattle.xt_tree.specs.View.{content_of, forest_of}
use Rattle.xt_edit.specs.Finding.{at_no_line}
use Rattle.xt_edit.specs.Site.{found_there, spot_in}
use Rattle.xt_edit.proofs.renewal.whole_fault.Goals as goal

pub returns : goal.returns
returns c =
    let there = found_there c.args.document.now (spot_in c.args.site.spot) c.args.site.node.now in
    let content = content_of c.args.content.now in
    let first = c.args.first.number in
    let scope : c.in_ok-around.around ≡ scope_around there = c.in_ok-around.ensures _ c.requires.parent in
    let depth : c.depth_below-depth.result ≡ depth_of there = omega (arith, c.depth_below-depth.ensures, c.requires.depth) in
    let children : forest_of c.children.result.now ≡ there.children = c.children.ensures.forest in
    subst (λ (x : Option Fault). IfOk c.tree_fault.result (λ found. at_no_line found ≡ x))
    (λ i. let tree = without_lines (Node tt content (plain (children i)) Empty) in
    least (node_faults (scope i) (depth i) tree ++ number_faults first (map (λ l. l.first) (labels tree))))
    c.tree_fault.ensures
