use Rattle.std.proofs.Common.{ap, ◌∙◌}
use Rattle.xt_tree.specs.View.{content_of}
use Rattle.xt_edit.specs.Finding.{at_no_line}
use Rattle.xt_edit.proofs.Faults.{content_told}
use Rattle.xt_edit.proofs.check.element_fault.Goals as goal

pub returns : goal.returns
returns c =
    ap at_no_line c.code_of.ensures
    ∙ content_told c.args.around.now c.in_ok-inside.inside c.args.depth (content_of c.args.content.now) c.check_content.new.found c.in_ok-inside.ensures
    c.in_ok-check_content.ensures
