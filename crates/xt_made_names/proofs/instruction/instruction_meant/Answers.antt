use Rattle.xt_questions.proofs.Steps.{runs_then, runs_stop, exits}
use Rattle.xt_made_names.proofs.instruction.instruction_meant.Goals as goal

pub returns-in_err-target-clause-runs : goal.returns-in_err-target-clause-runs
returns-in_err-target-clause-runs g c = exits _ c.from_residual.ensures.1 (runs_stop _ c.in_err-target.ensures.runs)

pub returns-clause-runs : goal.returns-clause-runs
returns-clause-runs g c = runs_then _ c.in_ok-target.ensures.runs (c.instruction_of.ensures _ _ _)
