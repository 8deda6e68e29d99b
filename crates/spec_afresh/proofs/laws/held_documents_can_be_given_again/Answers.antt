use Rattle.spec_afresh.proofs.Held.{held-given}
use Rattle.spec_afresh.proofs.laws.held_documents_can_be_given_again.Goals as goal

pub returns : goal.returns
returns c = held-given
