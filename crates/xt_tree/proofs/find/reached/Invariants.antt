use Rattle.std.proofs.Common.{◌<◌, ◌≤◌, ◌-◌, length, get_or}
use Rattle.xt_tree.specs.Keys.{keys_of, key_by}
use Rattle.xt_tree.proofs.find.reached.Given as goal

abbrev pub invariant-loop-low : goal.invariant-loop-low
invariant-loop-low l = record {
  bound : l.low ≤ l.high;
  within : l.high ≤ length l.siblings;
  before : 0 < l.low → get_or (keys_of (key_by l.keys) l.siblings) (l.low - 1) 0 ≤ l.key;
  behind : l.high < length l.siblings → l.key < get_or (keys_of (key_by l.keys) l.siblings) l.high 0;
}

abbrev pub decreases-loop-low : goal.decreases-loop-low
decreases-loop-low l = l.high - l.low
