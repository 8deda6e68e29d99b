use Rattle.std.proofs.Common.{refl, sym}
use Rattle.xt_questions.proofs.Steps.{runs_then, runs_stop, runs_gives, exits}
use Rattle.xp_functions.proofs.Within.{runs_as, count_is}
use Rattle.xp_functions.proofs.substring.length_argument.Goals as goal

pub returns-in_err-number-in-len1-up-clause-runs : goal.returns-in_err-number-in-len1-up-clause-runs
returns-in_err-number-in-len1-up-clause-runs g c supply depth =
    let e = count_is c.args.rest.now c.length-item.result c.length-item.is c.in-len1-up.len_at_least in
    exits _ c.from_residual.ensures.1 (runs_as (sym e) (runs_stop _ (c.in_err-number-in-len1-up.ensures.runs supply depth)))

pub returns-in_ok-number-in-len1-up-clause-runs : goal.returns-in_ok-number-in-len1-up-clause-runs
returns-in_ok-number-in-len1-up-clause-runs g c supply depth =
    let e = count_is c.args.rest.now c.length-item.result c.length-item.is c.in-len1-up.len_at_least in
    runs_as (sym e) (runs_then _ (c.in_ok-number-in-len1-up.ensures.runs supply depth) (runs_gives refl))
