use Rattle.std.proofs.Common.{◌≡◌, ℕ, true, take}
use Rattle.xt_edit.specs.Telling.{numbers_in}
use Rattle.xt_touch.specs.Named.{LieWithin, is_within}
use Rattle.xt_touch.proofs.source.with_all.Given as goal

abbrev pub invariant-loop-node : goal.invariant-loop-node
invariant-loop-node l = record {
  nodes : LieWithin (numbers_in (take l.node-index l.nodes)) l.more;
  before : (number : ℕ) → is_within l.fn.bounds number ≡ true → is_within l.more number ≡ true;
}
