use Rattle.spec_afresh.proofs.Reading.{nodes-chars}
use Rattle.spec_afresh.proofs.laws.siblings_are_read_with_characters.Goals as goal

pub returns : goal.returns
returns c = nodes-chars
