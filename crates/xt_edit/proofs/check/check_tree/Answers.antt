use Rattle.std.proofs.Common.{arith}
use Rattle.xt_tree.specs.View.{content_of, forest_of}
use Rattle.xt_build.specs.View.{found_of}
use Rattle.xt_edit.proofs.Faults.{tree_found}
use Rattle.xt_edit.proofs.check.check_tree.Goals as goal

pub returns-clause-faults : goal.returns-clause-faults
returns-clause-faults c =
    tree_found c.args.around.now c.in_ok-inside.inside c.args.depth c.saturating_add-below.result (content_of c.args.content.now)
    (forest_of c.args.children.now) (found_of c.args.found.now) (found_of c.check_content.new.found) (found_of c.check_nodes.new.found)
    c.in_ok-inside.ensures (λ h. omega arith) (λ h. omega arith) c.in_ok-check_content.ensures c.in_ok-count.ensures.faults
