use Rattle.std.proofs.Common.{◌≡◌, map, drop}
use Rattle.spec_meaning.specs.Stream.{all_followed}
use Rattle.xt_tree.specs.StreamView.{single_of, stream_of}
use Rattle.xt_streams.specs.Parts.{has_attribute}
use Rattle.xt_streams.proofs.fragment.+has_attribute.Given as goal

abbrev pub invariant-has_attribute-loop-item : goal.invariant-has_attribute-loop-item
invariant-has_attribute-loop-item l = has_attribute (all_followed (map single_of (drop l.item-index l.item-items))) ≡ has_attribute (stream_of l.items)
