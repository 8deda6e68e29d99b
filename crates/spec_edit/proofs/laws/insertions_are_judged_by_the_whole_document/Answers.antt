use Rattle.spec_edit.proofs.Inserting.{insertion_judged}
use Rattle.spec_edit.proofs.laws.insertions_are_judged_by_the_whole_document.Goals as goal

pub returns : goal.returns
returns c = insertion_judged
