use Rattle.std.proofs.Common.{◌≡◌, ◌++◌, map, drop}
use Rattle.spec_transform.specs.Sorted as plain
use Rattle.spec_node.specs.declared.node_ref.NodeRef.{NodeRef}
use Rattle.xt_sort.specs.View.{row_of}
use Rattle.xt_sort.proofs.sorting.nodes_of.Given as goal

abbrev pub invariant-loop-row : goal.invariant-loop-row
invariant-loop-row l =
    l.nodes.items ++ map (λ (r : plain.Row NodeRef). r.node) (map row_of (drop l.row-index l.rows)) ≡ map (λ (r : plain.Row NodeRef). r.node) (map row_of l.rows)
