use Rattle.xt_questions.proofs.Steps.{runs_then, runs_stop, exits}
use Rattle.xp_functions.proofs.key.of_texts_of.Goals as goal

pub returns-in_err-found-clause-runs : goal.returns-in_err-found-clause-runs
returns-in_err-found-clause-runs g c supply depth = exits _ c.from_residual.ensures.1 (runs_stop _ (c.in_err-found.ensures.runs supply depth))

pub returns-clause-runs : goal.returns-clause-runs
returns-clause-runs g c supply depth = runs_then _ (c.in_ok-found.ensures.runs supply depth) (c.arranged.ensures.runs supply depth)
