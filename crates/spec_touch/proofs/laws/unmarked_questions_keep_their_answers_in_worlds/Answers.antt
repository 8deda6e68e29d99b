use Rattle.spec_touch.proofs.Marking.{world-unmarked}
use Rattle.spec_touch.proofs.laws.unmarked_questions_keep_their_answers_in_worlds.Goals as goal

pub returns : goal.returns
returns c change old new comes question e = world-unmarked comes question e
