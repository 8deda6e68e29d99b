use Rattle.spec_touch.proofs.Answering.{unmarked}
use Rattle.spec_touch.proofs.laws.unmarked_questions_keep_their_answers.Goals as goal

pub returns : goal.returns
returns c change old new leads sheet parameters called question e = unmarked change old new leads sheet parameters called question e
