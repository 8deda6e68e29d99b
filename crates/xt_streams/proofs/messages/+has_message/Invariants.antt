use Rattle.std.proofs.Common.{◌≡◌, map, drop}
use Rattle.spec_meaning.specs.Stream.{all_followed}
use Rattle.xt_tree.specs.StreamView.{single_of, stream_of}
use Rattle.xt_streams.specs.Parts.{has_message}
use Rattle.xt_streams.proofs.messages.+has_message.Given as goal

abbrev pub invariant-has_message-loop-item : goal.invariant-has_message-loop-item
invariant-has_message-loop-item l = has_message (all_followed (map single_of (drop l.item-index l.item-items))) ≡ has_message (stream_of l.items)
