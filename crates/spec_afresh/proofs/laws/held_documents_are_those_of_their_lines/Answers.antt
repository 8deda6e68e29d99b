use Rattle.spec_afresh.proofs.Held.{held-afresh, held-room}
use Rattle.spec_afresh.proofs.laws.held_documents_are_those_of_their_lines.Goals as goal

pub returns-clause-afresh : goal.returns-clause-afresh
returns-clause-afresh c = held-afresh

pub returns-clause-room : goal.returns-clause-room
returns-clause-room c = held-room
