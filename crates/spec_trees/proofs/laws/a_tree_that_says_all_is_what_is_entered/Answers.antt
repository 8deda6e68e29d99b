use Rattle.spec_trees.proofs.Whole.{said_found}
use Rattle.spec_trees.proofs.laws.a_tree_that_says_all_is_what_is_entered.Goals as goal

pub returns : goal.returns
returns c = said_found
