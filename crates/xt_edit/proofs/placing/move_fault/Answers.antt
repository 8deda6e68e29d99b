use Rattle.std.proofs.Common.{◌≡◌, ◌+◌, [], map, sym, ap, ◌∙◌, length, if◌then◌else◌}
use Rattle.spec_document.specs.Document.{elements_beside}
use Rattle.spec_document.specs.Fault.{fault_if, least}
use Rattle.spec_document.specs.Forest.{height, labels}
use Rattle.spec_document.specs.NodeFaults.{greatest_depth, node_faults}
use Rattle.spec_document.specs.Numbering.{number_faults}
use Rattle.spec_document.specs.Place.{scope_at}
use Rattle.spec_document.specs.Top.{kept, top_faults}
use Rattle.std.specs.Prelude.{nat_lt}
use Rattle.spec_edit.specs.Edit.{depth_of, without_lines}
use Rattle.spec_move.specs.Move.{height_faults}
use Rattle.xt_build.specs.Least.{merged}
use Rattle.xt_tree.specs.View.{tree_of}
use Rattle.xt_edit.specs.Moving.{new_parent, tree_in}
use Rattle.xt_edit.specs.Placing.{leaf}
use Rattle.xt_edit.specs.Site.{spot_in}
use Rattle.xt_edit.proofs.Judged.{all_least, top_leaf}
use Rattle.xt_edit.proofs.Moves.{parent-depth}
use Rattle.xt_edit.proofs.placing.move_fault.Goals as goal

pub returns : goal.returns
returns c =
    let document = c.args.document.now in
    let ends = c.args.ends in
    let node = ends.site.node.now in
    let beside = elements_beside ends.to.parent in
    let new = new_parent document ends in
    let keeps = c.args.keeps in
    let first = c.args.first.number in
    let tree = without_lines (tree_in node) in
    let levels : length ends.to.spot.parent.now ≡ depth_of new = sym (parent-depth document (spot_in ends.to.spot) ends.to.parent c.requires.to) in
    let top = ap (λ content. least (top_faults beside (leaf content))) c.content.ensures ∙ ap least (top_leaf beside (tree_of node).content (tree_of node).children) in
    let high = ap (λ depth. least (fault_if (nat_lt (greatest_depth + 1) (depth + height (tree_in node))) 11 0)) levels in
    c.sooner-2.ensures
    ∙ (λ i. merged ((c.top_fault-top.ensures ∙ top) i) ((c.sooner.ensures ∙ λ j. merged (c.in_ok-own.ensures j) ((c.height_fault-height.ensures ∙ high) j)) i))
    ∙ all_least (top_faults beside tree) (node_faults (scope_at new) (depth_of new + 1) tree) (height_faults new (tree_in node))
    (if keeps then [] else number_faults first (map (λ l. l.first) (labels (kept beside tree))))
