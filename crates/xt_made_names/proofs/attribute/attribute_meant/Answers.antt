use Rattle.xt_questions.proofs.Steps.{runs_then, runs_stop, exits}
use Rattle.xt_made_names.proofs.attribute.attribute_meant.Goals as goal

pub returns-in_err-name-clause-runs : goal.returns-in_err-name-clause-runs
returns-in_err-name-clause-runs g c = exits _ c.from_residual.ensures.1 (runs_stop _ c.in_err-name.ensures.runs)

pub returns-in_err-uri-clause-runs : goal.returns-in_err-uri-clause-runs
returns-in_err-uri-clause-runs g c = exits _ c.from_residual-in_err-uri.ensures.1 (runs_then _ c.in_ok-name.ensures.runs (runs_stop _ c.in_err-uri.ensures.runs))

pub returns-clause-runs : goal.returns-clause-runs
returns-clause-runs g c = runs_then _ c.in_ok-name.ensures.runs (runs_then _ c.in_ok-uri.ensures.runs (c.attribute_of.ensures _ _ _))
