use Rattle.spec_meaning.specs.Question.{Name}
use Rattle.xt_touch.proofs.named.Named.with_inside.Goals as goal

pub returns-clause-node : goal.returns-clause-node
returns-clause-node c = c.inside_of.ensures.before (Name c.args.node) c.with_node.ensures.node
