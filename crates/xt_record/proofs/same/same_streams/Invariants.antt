use Rattle.std.proofs.Common.{◌≡◌, take}
use Rattle.xt_tree.specs.StreamView.{streams_of}
use Rattle.xt_record.proofs.same.same_streams.Given as goal

abbrev pub invariant-loop-index : goal.invariant-loop-index
invariant-loop-index l = streams_of (take l.index l.parts) ≡ streams_of (take l.index l.others)
