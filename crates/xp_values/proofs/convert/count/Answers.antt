use Rattle.std.proofs.Common.{refl}
use Rattle.xt_questions.proofs.Steps.{runs_then, runs_stop, runs_gives, exits}
use Rattle.xp_values.proofs.Faults.{given_so}
use Rattle.xp_values.proofs.convert.count.Goals as goal

pub returns-in_err-counted : goal.returns-in_err-counted
returns-in_err-counted c supply depth s =
    exits _ c.from_residual.ensures.1 (runs_stop _ (given_so _ _ c.whole.ensures (c.in_err-counted.ensures supply depth s)))

pub returns : goal.returns
returns c supply depth s = runs_then _ (given_so _ _ c.whole.ensures (c.in_ok-counted.ensures supply depth s)) (runs_gives refl)
