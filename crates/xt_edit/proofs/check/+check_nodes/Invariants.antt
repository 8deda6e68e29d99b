use Rattle.std.proofs.Common.{◌≡◌, ◌+◌, ◌≤◌, min, drop}
use Rattle.spec_document.specs.Forest.{size}
use Rattle.spec_document.specs.Fault.{least}
use Rattle.spec_document.specs.NodeFaults.{node_faults}
use Rattle.spec_edit.specs.Edit.{without_lines}
use Rattle.xt_tree.specs.View.{forest_of}
use Rattle.xt_build.specs.Least.{merged}
use Rattle.xt_build.specs.View.{found_of}
use Rattle.xt_edit.proofs.check.+check_nodes.Given as goal

-- what was found, with the faults of what is left, is what is to be found; the same for what was counted
abbrev pub invariant-loop-sibling : goal.invariant-loop-sibling
invariant-loop-sibling l = record {
  fits : l.count ≤ 18446744073709551615;
  faults : merged (found_of l.found) (least (node_faults l.around l.depth (without_lines (forest_of (drop l.sibling-index l.siblings)))))
      ≡ merged (found_of l.fn.found) (least (node_faults l.around l.depth (without_lines (forest_of l.siblings))));
  count : min (l.count + size (forest_of (drop l.sibling-index l.siblings))) 18446744073709551615
      ≡ min (size (forest_of l.siblings)) 18446744073709551615;
}
