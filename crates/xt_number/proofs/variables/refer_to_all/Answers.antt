use Rattle.std.proofs.Common.{sym}
use Rattle.xt_questions.proofs.Steps.{runs_then, runs_stop, exits}
use Rattle.xt_match.proofs.Together.{runs_as}
use Rattle.xt_number.proofs.Referring.{both}
use Rattle.xt_number.proofs.variables.refer_to_all.Goals as goal

pub returns-in_err-refer_in_pattern-clause-runs : goal.returns-in_err-refer_in_pattern-clause-runs
returns-in_err-refer_in_pattern-clause-runs g c =
    exits _ c.from_residual.ensures.1 (runs_as (sym (both _ _ _)) (runs_stop _ c.in_err-refer_in_pattern.ensures.runs))

pub returns-clause-runs : goal.returns-clause-runs
returns-clause-runs g c = runs_as (sym (both _ _ _)) (runs_then _ c.in_ok-refer_in_pattern.ensures.runs c.refer_in_pattern-2.ensures.runs)
