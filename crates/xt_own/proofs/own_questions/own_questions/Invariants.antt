use Rattle.std.proofs.Common.{◌≡◌, [], map, drop}
use Rattle.xt_questions.specs.View.{read_of}
use Rattle.xt_spared.specs.View.{questions_of}
use Rattle.xt_own.specs.Keys.{own_questions}
use Rattle.xt_own.proofs.own_questions.own_questions.Given as goal

abbrev pub invariant-loop-read : goal.invariant-loop-read
invariant-loop-read l = record {
  left : own_questions l.node (questions_of l.questions.items) (map read_of (drop l.read-index l.reads)) ≡ own_questions l.node [] (map read_of l.reads);
}
