use Rattle.spec_meaning.specs.Question.{Name}
use Rattle.xt_touch.proofs.named.Named.with.Goals as goal

pub returns-in-Place-clause-question : goal.returns-in-Place-clause-question
returns-in-Place-clause-question c =
    rw c.in-Place.is (c.with_anywhere.ensures.before (Name c.in-Place.node) c.with_node-in-Place.ensures.node, c.with_anywhere.ensures.anywhere)

pub returns-in-Choice-clause-question : goal.returns-in-Choice-clause-question
returns-in-Choice-clause-question c =
    rw c.in-Choice.is (c.with_choice.ensures.before (Name c.in-Choice.node) c.with_node-in-Choice.ensures.node, c.with_choice.ensures.chooses)
