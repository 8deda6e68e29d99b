use Rattle.std.proofs.Common.{◌≡◌, map, drop}
use Rattle.spec_meaning.specs.Stream.{all_followed}
use Rattle.spec_result.specs.Recovery.{has_child, namespaces_of}
use Rattle.spec_result.specs.Shape.{with_nodes}
use Rattle.xt_tree.specs.StreamView.{single_of, stream_of}
use Rattle.xt_result.specs.View.{opening_of}
use Rattle.xt_result.proofs.leading.+copy.Given as goal

-- the items ahead tell whether there is a child, and have all that is still to be copied
abbrev pub invariant-copy_namespaces-loop-item : goal.invariant-copy_namespaces-loop-item
invariant-copy_namespaces-loop-item l = record {
  child : has_child (all_followed (map single_of (drop l.item-index l.item-items))) ≡ has_child (stream_of l.items);
  copied : with_nodes (namespaces_of (all_followed (map single_of (drop l.item-index l.item-items)))) (opening_of l.opening)
      ≡ with_nodes (namespaces_of (stream_of l.items)) (opening_of l.fn.opening);
}
