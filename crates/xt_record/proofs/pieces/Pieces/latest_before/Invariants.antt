use Rattle.std.proofs.Common.{◌≤◌, ◌-◌, None, drop, length, take}
use Rattle.xt_record.specs.Chain.{IsLatest}
use Rattle.xt_record.specs.Listed.{keys_of}
use Rattle.xt_record.specs.Pieced.{flat}
use Rattle.xt_record.proofs.pieces.Pieces.latest_before.Given as goal

abbrev pub invariant-loop-place : goal.invariant-loop-place
invariant-loop-place l =
    let ps = l.self-inside.list.items in
    record {
      count : l.place ≤ length ps;
      none : IsLatest (keys_of (flat (drop l.place ps))) l.key (l.turn - length (flat (take l.place ps))) None;
    }

abbrev pub decreases-loop-place : goal.decreases-loop-place
decreases-loop-place l = l.place
