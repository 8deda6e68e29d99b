use Rattle.spec_touch.proofs.Marking.{worlds-unmarked}
use Rattle.spec_touch.proofs.laws.unmarked_by_all_keep_their_answers.Goals as goal

pub returns : goal.returns
returns c changes old new come question e = worlds-unmarked come question e
