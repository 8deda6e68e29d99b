use Rattle.xt_questions.proofs.Steps.{runs_then, runs_stop, exits}
use Rattle.xt_number.proofs.levels.numbers.Goals as goal

pub returns-in_err-refer_to_all-clause-runs : goal.returns-in_err-refer_to_all-clause-runs
returns-in_err-refer_to_all-clause-runs g c = exits _ c.from_residual.ensures.1 (runs_stop _ c.in_err-refer_to_all.ensures.runs)

pub returns-in_err-counted-clause-runs : goal.returns-in_err-counted-clause-runs
returns-in_err-counted-clause-runs g c =
    exits _ c.from_residual-in_err-counted.ensures.1
    (runs_then _ c.in_ok-refer_to_all.ensures.runs (runs_stop _ (c.in_err-counted.ensures.runs _ _ c.args.context.now)))

pub returns-clause-runs : goal.returns-clause-runs
returns-clause-runs g c =
    runs_then _ c.in_ok-refer_to_all.ensures.runs (runs_then _ (c.in_ok-counted.ensures.runs _ _ c.args.context.now) c.at_level-numbers.ensures.runs)
