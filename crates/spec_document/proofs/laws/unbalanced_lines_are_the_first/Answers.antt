use Rattle.spec_document.proofs.Balanced.{first_unbalanced}
use Rattle.spec_document.proofs.laws.unbalanced_lines_are_the_first.Goals as goal

pub returns : goal.returns
returns c = first_unbalanced
