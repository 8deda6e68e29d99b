use Rattle.std.proofs.Common.{refl}
use Rattle.xt_questions.proofs.Steps.{runs_then, runs_stop, runs_gives, exits}
use Rattle.xp_values.proofs.Faults.{given_so}
use Rattle.xt_sort.proofs.asking.key_of_text.Goals as goal

pub returns-in_err-number : goal.returns-in_err-number
returns-in_err-number c supply depth s =
    rw (← c.as_str.ensures.characters, c.if-not-is_number.false)
    (exits _ c.from_residual.ensures.1 (runs_stop _ (given_so _ _ c.read.ensures (c.in_err-number.ensures supply depth s))))

pub returns : goal.returns
returns c supply depth s =
    rw (← c.as_str.ensures.characters, c.if-not-is_number.false) (runs_then _ (given_so _ _ c.read.ensures (c.in_ok-number.ensures supply depth s)) (runs_gives refl))
