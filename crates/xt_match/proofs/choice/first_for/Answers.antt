use Rattle.std.proofs.Common.{refl}
use Rattle.xt_questions.proofs.Steps.{runs_memory, exits}
use Rattle.xt_match.proofs.choice.first_for.Goals as goal

pub returns-in_err-key-in-Named-clause-runs : goal.returns-in_err-key-in-Named-clause-runs
returns-in_err-key-in-Named-clause-runs g c = exits _ c.from_residual.ensures.1 (runs_memory refl refl)
