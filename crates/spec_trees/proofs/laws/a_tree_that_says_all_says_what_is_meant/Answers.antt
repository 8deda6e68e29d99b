use Rattle.spec_trees.proofs.Whole.{said_meant}
use Rattle.spec_trees.proofs.laws.a_tree_that_says_all_says_what_is_meant.Goals as goal

pub returns : goal.returns
returns c = said_meant
