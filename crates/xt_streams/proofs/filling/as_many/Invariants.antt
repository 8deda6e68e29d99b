use Rattle.std.proofs.Common.{◌≡◌, ◌-◌, ◌++◌, length, drop}
use Rattle.xt_tree.specs.StreamView.{streams_of}
use Rattle.xt_streams.specs.Parts.{as_many}
use Rattle.xt_streams.proofs.filling.as_many.Given as goal

abbrev pub invariant-loop-index : goal.invariant-loop-index
invariant-loop-index l = record {
  length : length l.list.items ≡ l.index;
  parts : streams_of l.list.items ++ as_many (l.count - l.index) (drop l.index (streams_of l.parts)) ≡ as_many l.count (streams_of l.parts);
}
