use Rattle.spec_meaning.specs.Question.{Name}
use Rattle.xt_touch.proofs.named.Named.with_step.Goals as goal

pub returns-in-Following-clause-node : goal.returns-in-Following-clause-node
returns-in-Following-clause-node c = c.with_anywhere.ensures.before (Name c.args.node) c.with_node.ensures.node

pub returns-in-Preceding-clause-node : goal.returns-in-Preceding-clause-node
returns-in-Preceding-clause-node c = c.with_anywhere-in-Preceding.ensures.before (Name c.args.node) c.with_node-in-Preceding.ensures.node
