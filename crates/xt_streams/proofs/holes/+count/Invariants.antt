use Rattle.std.proofs.Common.{◌≡◌, ◌+◌, map, drop}
use Rattle.spec_meaning.specs.Stream.{all_followed, holes}
use Rattle.xt_tree.specs.StreamView.{single_of, stream_of}
use Rattle.xt_streams.proofs.holes.+count.Given as goal

-- the holes are those that were counted and those of the items ahead
abbrev pub invariant-count_holes-loop-item : goal.invariant-count_holes-loop-item
invariant-count_holes-loop-item l = l.count + holes (all_followed (map single_of (drop l.item-index l.item-items))) ≡ holes (stream_of l.items)
