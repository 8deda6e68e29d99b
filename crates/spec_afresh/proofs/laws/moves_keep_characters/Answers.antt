use Rattle.spec_afresh.proofs.Moving.{move-chars}
use Rattle.spec_afresh.proofs.laws.moves_keep_characters.Goals as goal

pub returns : goal.returns
returns c = move-chars
