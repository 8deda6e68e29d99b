use Rattle.std.proofs.Common.{ap}
use Rattle.spec_meaning.specs.Call.{of_value}
use Rattle.xp_functions.proofs.Within.{runs_as}
use Rattle.xp_functions.proofs.call.call_of_value.Goals as goal

pub returns-clause-runs : goal.returns-clause-runs
returns-clause-runs g c supply depth = runs_as (ap (of_value c.args.function) (c.in_ok-value.ensures {u = tt})) (c.of_value.ensures.runs supply depth)
