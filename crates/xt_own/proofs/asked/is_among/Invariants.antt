use Rattle.std.proofs.Common.{drop}
use Rattle.xt_spared.specs.View.{Ask, questions_of}
use Rattle.xt_own.specs.Keys.{AgreeOn}
use Rattle.xt_own.proofs.asked.is_among.Given as goal

abbrev pub invariant-loop-known : goal.invariant-loop-known
invariant-loop-known l =
    (other was : Ask) → AgreeOn other was (questions_of l.questions) → AgreeOn other was (questions_of (drop l.known-index l.questions))
