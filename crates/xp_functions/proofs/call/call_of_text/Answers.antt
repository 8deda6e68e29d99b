use Rattle.std.proofs.Common.{ap}
use Rattle.spec_meaning.specs.Convert.{to_text}
use Rattle.xt_questions.proofs.Steps.{runs_then, runs_stop, exits}
use Rattle.xp_functions.proofs.Within.{runs_as}
use Rattle.xp_functions.proofs.call.call_of_text.Goals as goal

pub returns-in_err-text-clause-runs : goal.returns-in_err-text-clause-runs
returns-in_err-text-clause-runs g c supply depth = exits _ c.from_residual-in_err-text.ensures.1 (runs_stop _ (runs_as (ap to_text (c.in_ok-value.ensures {u = tt})) (c.in_err-text.ensures.runs supply depth)))

pub returns-clause-runs : goal.returns-clause-runs
returns-clause-runs g c supply depth = runs_then _ (runs_as (ap to_text (c.in_ok-value.ensures {u = tt})) (c.in_ok-text.ensures.runs supply depth)) (c.of_text.ensures.runs supply depth)
