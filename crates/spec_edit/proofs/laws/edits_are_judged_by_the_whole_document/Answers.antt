use Rattle.spec_edit.proofs.Judging.{judged_whole}
use Rattle.spec_edit.proofs.laws.edits_are_judged_by_the_whole_document.Goals as goal

pub returns : goal.returns
returns c = judged_whole
