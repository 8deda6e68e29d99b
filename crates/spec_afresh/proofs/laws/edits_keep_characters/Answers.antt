use Rattle.spec_afresh.proofs.Editing.{edit-chars}
use Rattle.spec_afresh.proofs.laws.edits_keep_characters.Goals as goal

pub returns : goal.returns
returns c = edit-chars
