use Rattle.spec_edit.proofs.Numbers.{once-distinct, below-from}
use Rattle.spec_touch.proofs.Moving.{move-unmarked}
use Rattle.spec_touch.proofs.laws.moves_keep_the_answers_of_unmarked_questions.Goals as goal

pub returns : goal.returns
returns c first path other document new e normal distinct low change told sheet parameters called question u =
    move-unmarked first document new normal (once-distinct _ distinct) (below-from first _ low) sheet parameters called question path other e
    change told u
