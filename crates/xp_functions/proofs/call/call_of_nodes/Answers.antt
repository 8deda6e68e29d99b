use Rattle.std.proofs.Common.{ap}
use Rattle.spec_meaning.specs.Convert.{to_nodes}
use Rattle.xt_questions.proofs.Steps.{runs_then, runs_stop, exits}
use Rattle.xp_functions.proofs.Within.{runs_as}
use Rattle.xp_functions.proofs.call.call_of_nodes.Goals as goal

pub returns-in_err-nodes-clause-runs : goal.returns-in_err-nodes-clause-runs
returns-in_err-nodes-clause-runs g c supply depth = exits _ c.from_residual-in_err-nodes.ensures.1 (runs_stop _ (runs_as (ap to_nodes (c.in_ok-value.ensures {u = tt})) (c.in_err-nodes.ensures supply depth _)))

pub returns-clause-runs : goal.returns-clause-runs
returns-clause-runs g c supply depth =
    runs_then _ (runs_as (ap to_nodes (c.in_ok-value.ensures {u = tt})) (c.in_ok-nodes.ensures supply depth _)) (rw c.as_slice.ensures.value at (c.of_nodes.ensures.runs supply depth))
