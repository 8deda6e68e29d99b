use Rattle.std.proofs.Common.{◌≡◌, map, drop}
use Rattle.spec_meaning.specs.Stream.{all_followed, followed}
use Rattle.spec_run.specs.Direct.{quiet}
use Rattle.xt_tree.specs.StreamView.{single_of, stream_of}
use Rattle.xt_streams.proofs.messages.+quiet.Given as goal

abbrev pub invariant-quiet-loop-item : goal.invariant-quiet-loop-item
invariant-quiet-loop-item l = followed (stream_of l.list) (quiet (all_followed (map single_of (drop l.item-index l.item-items)))) ≡ quiet (stream_of l.items.value)
