use Rattle.spec_afresh.proofs.Reading.{document-chars}
use Rattle.spec_afresh.proofs.laws.characters_are_read.Goals as goal

pub returns : goal.returns
returns c = document-chars
