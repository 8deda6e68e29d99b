use Rattle.std.proofs.Common.{◌≡◌, map, drop}
use Rattle.spec_meaning.specs.Stream.{all_followed, holes}
use Rattle.xt_tree.specs.StreamView.{single_of, stream_of}
use Rattle.xt_tree.proofs.filling.+has_hole.Given as goal

-- the holes are those of the items ahead
abbrev pub invariant-has_hole-loop-item : goal.invariant-has_hole-loop-item
invariant-has_hole-loop-item l = holes (all_followed (map single_of (drop l.item-index l.item-items))) ≡ holes (stream_of l.items)
