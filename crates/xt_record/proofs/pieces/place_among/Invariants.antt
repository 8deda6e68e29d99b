use Rattle.std.proofs.Common.{◌<◌, ◌≤◌, ◌-◌, length, slice_index}
use Rattle.xt_record.proofs.pieces.place_among.Given as goal

abbrev pub invariant-loop-end : goal.invariant-loop-end
invariant-loop-end l = record {
  order : l.place < l.end;
  within : l.end ≤ length l.starts;
  from : slice_index l.starts l.place ≤ l.turn;
  up_to : l.end < length l.starts → l.turn < slice_index l.starts l.end;
}

abbrev pub decreases-loop-end : goal.decreases-loop-end
decreases-loop-end l = l.end - l.place
