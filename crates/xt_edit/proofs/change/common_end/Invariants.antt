use Rattle.std.proofs.Common.{◌≡◌, ◌≤◌, ◌-◌, length, drop, reverse}
use Rattle.xt_edit.specs.Telling.{number_of, past_common}
use Rattle.xt_edit.proofs.change.common_end.Given as goal

-- those that are left differ where all do
abbrev pub invariant-loop-count : goal.invariant-loop-count
invariant-loop-count l = record {
  within_old : l.count ≤ length l.old;
  within_new : l.count ≤ length l.new;
  rests : past_common number_of (drop l.count (reverse l.old)) (drop l.count (reverse l.new))
      ≡ past_common number_of (reverse l.old) (reverse l.new);
}

abbrev pub decreases-loop-count : goal.decreases-loop-count
decreases-loop-count l = length l.old - l.count
