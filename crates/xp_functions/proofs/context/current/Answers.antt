use Rattle.std.proofs.Common.{ap}
use Rattle.spec_meaning.specs.Value.{Nodes}
use Rattle.xt_questions.proofs.Steps.{runs_gives}
use Rattle.xp_functions.proofs.context.current.Goals as goal

pub returns : goal.returns
returns c supply depth s = runs_gives (ap Nodes (c.in_ok-nodes.ensures {u = tt}))
