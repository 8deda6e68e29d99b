use Rattle.std.proofs.Common.{map, take}
use Rattle.xt_questions.specs.View.{read_of}
use Rattle.xt_spared.specs.View.{questions_of}
use Rattle.xt_own.specs.View.{AreAsked}
use Rattle.xt_own.proofs.asked.questions_asked.Given as goal

abbrev pub invariant-loop-read : goal.invariant-loop-read
invariant-loop-read l = AreAsked (questions_of l.questions.items) (map read_of (take l.read-index l.reads))
