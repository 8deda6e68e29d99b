use Rattle.spec_touch.proofs.Marking.{all-asks-less}
use Rattle.spec_touch.proofs.laws.what_is_not_marked_need_not_be_asked.Goals as goal

pub returns : goal.returns
returns c changes question e = all-asks-less changes question e
