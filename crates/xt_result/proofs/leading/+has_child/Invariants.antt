use Rattle.std.proofs.Common.{◌≡◌, map, drop}
use Rattle.spec_meaning.specs.Stream.{all_followed}
use Rattle.spec_result.specs.Recovery.{has_child}
use Rattle.xt_tree.specs.StreamView.{single_of, stream_of}
use Rattle.xt_result.proofs.leading.+has_child.Given as goal

-- the items ahead tell whether there is a child
abbrev pub invariant-has_child-loop-item : goal.invariant-has_child-loop-item
invariant-has_child-loop-item l = has_child (all_followed (map single_of (drop l.item-index l.item-items))) ≡ has_child (stream_of l.items)
