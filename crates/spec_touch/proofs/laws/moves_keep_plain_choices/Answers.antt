use Rattle.spec_edit.proofs.Numbers.{once-distinct, below-from}
use Rattle.spec_touch.proofs.MovingChoices.{move-spared}
use Rattle.spec_touch.proofs.laws.moves_keep_plain_choices.Goals as goal

pub returns : goal.returns
returns c first path other document new e normal distinct low change told sheet parameters called question asking plain u =
    move-spared first document new normal (once-distinct _ distinct) (below-from first _ low) path other e change told sheet parameters called
    question asking plain u
