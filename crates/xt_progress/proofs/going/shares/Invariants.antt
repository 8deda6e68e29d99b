use Rattle.std.proofs.Common.{◌≡◌, ◌++◌, drop}
use Rattle.xt_tree.specs.StreamView.{streams_of}
use Rattle.xt_progress.proofs.going.shares.Given as goal

abbrev pub invariant-loop-stream : goal.invariant-loop-stream
invariant-loop-stream l = streams_of l.list.items ++ streams_of (drop l.stream-index l.streams) ≡ streams_of l.streams
