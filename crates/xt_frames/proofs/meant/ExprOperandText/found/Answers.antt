use Rattle.xt_questions.proofs.Steps.{runs_then, runs_stop, exits}
use Rattle.xt_frames.proofs.meant.ExprOperandText.found.Goals as goal

pub returns-in_err-value-clause-runs : goal.returns-in_err-value-clause-runs
returns-in_err-value-clause-runs g c = exits _ c.from_residual.ensures.1 (runs_stop _ c.in_err-value.ensures.runs)

pub returns-clause-runs : goal.returns-clause-runs
returns-clause-runs g c = runs_then _ c.in_ok-value.ensures.runs (c.to_text.ensures.runs _ _)
