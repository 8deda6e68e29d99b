use Rattle.spec_afresh.proofs.Writing.{lines-make}
use Rattle.spec_afresh.proofs.laws.lines_make_their_document.Goals as goal

pub returns : goal.returns
returns c = lines-make
