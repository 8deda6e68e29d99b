use Rattle.std.proofs.Common.{ap, ◌∙◌}
use Rattle.spec_document.specs.Forest.{Empty, Node}
use Rattle.xt_tree.specs.View.{content_of, forest_of}
use Rattle.xt_edit.specs.Finding.{at_no_line}
use Rattle.xt_edit.proofs.Faults.{nodes_told}
use Rattle.xt_edit.proofs.check.nodes_fault.Goals as goal

pub returns : goal.returns
returns c =
    ap at_no_line c.code_of.ensures
    ∙ nodes_told c.args.around.now c.args.depth (Node 0 (content_of c.args.content.now) (forest_of c.args.children.now) Empty) c.check_tree.new.found
    c.in_ok-check_tree.ensures.faults
