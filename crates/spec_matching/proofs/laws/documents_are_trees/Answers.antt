use Rattle.spec_matching.proofs.Documents.{documents_are_trees}
use Rattle.spec_matching.proofs.laws.documents_are_trees.Goals as goal

pub returns : goal.returns
returns c = documents_are_trees
