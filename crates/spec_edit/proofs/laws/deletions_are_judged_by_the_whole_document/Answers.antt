use Rattle.spec_edit.proofs.Inserting.{deletion_judged}
use Rattle.spec_edit.proofs.laws.deletions_are_judged_by_the_whole_document.Goals as goal

pub returns : goal.returns
returns c = deletion_judged
