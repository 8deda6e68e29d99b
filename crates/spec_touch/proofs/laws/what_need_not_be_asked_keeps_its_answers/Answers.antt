use Rattle.spec_touch.proofs.Marking.{worlds-unasked}
use Rattle.spec_touch.proofs.laws.what_need_not_be_asked_keeps_its_answers.Goals as goal

pub returns : goal.returns
returns c changes old new come question e = worlds-unasked come question e
