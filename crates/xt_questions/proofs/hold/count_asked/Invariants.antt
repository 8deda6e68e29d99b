use Rattle.std.proofs.Common.{◌≡◌, ◌≤◌, map, take}
use Rattle.xt_questions.specs.View.{read_of}
use Rattle.xt_questions.specs.Change.{asked_in}
use Rattle.xt_questions.proofs.hold.count_asked.Given as goal

abbrev pub invariant-loop-read : goal.invariant-loop-read
invariant-loop-read l =
    record {
      count : l.count ≡ asked_in (map read_of (take l.read-index l.reads));
      few : l.count ≤ l.read-index;
    }
