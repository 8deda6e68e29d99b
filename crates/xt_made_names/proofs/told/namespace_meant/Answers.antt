use Rattle.std.proofs.Common.{refl}
use Rattle.xt_questions.proofs.Steps.{runs_then, runs_stop, runs_gives, exits}
use Rattle.xt_made_names.proofs.told.namespace_meant.Goals as goal

pub returns-in_err-uri-in-Some-clause-runs : goal.returns-in_err-uri-in-Some-clause-runs
returns-in_err-uri-in-Some-clause-runs g c = rw c.in-Some.is (exits _ c.from_residual.ensures.1 (runs_stop _ c.in_err-uri-in-Some.ensures.runs))

pub returns-in_ok-uri-in-Some-clause-runs : goal.returns-in_ok-uri-in-Some-clause-runs
returns-in_ok-uri-in-Some-clause-runs g c = rw c.in-Some.is (runs_then _ c.in_ok-uri-in-Some.ensures.runs (runs_gives refl))
