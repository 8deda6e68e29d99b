use Rattle.std.proofs.Common.{◌≡◌, map, drop}
use Rattle.spec_meaning.specs.Stream.{all_followed}
use Rattle.spec_result.specs.Recovery.{has_child, attributes_of, all_added}
use Rattle.xt_tree.specs.StreamView.{single_of, stream_of}
use Rattle.xt_result.proofs.attributes.+add.Given as goal

-- the items ahead tell whether there is a child, and have all that is still to be added
abbrev pub invariant-add_items-loop-item : goal.invariant-add_items-loop-item
invariant-add_items-loop-item l = record {
  child : has_child (all_followed (map single_of (drop l.item-index l.item-items))) ≡ has_child (stream_of l.items);
  added : all_added l.attributes (attributes_of (all_followed (map single_of (drop l.item-index l.item-items))))
      ≡ all_added l.fn.attributes (attributes_of (stream_of l.items));
}
