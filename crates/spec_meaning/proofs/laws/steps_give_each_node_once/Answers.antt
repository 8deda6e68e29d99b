use Rattle.spec_meaning.proofs.Steps.{once}
use Rattle.spec_meaning.proofs.laws.steps_give_each_node_once.Goals as goal

pub returns : goal.returns
returns c = λ document axis test node. once document axis test node
