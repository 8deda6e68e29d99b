use Rattle.spec_document.proofs.Lines.{unescaped-escaped}
use Rattle.spec_document.proofs.laws.escapes_read_back.Goals as goal

pub returns : goal.returns
returns c = unescaped-escaped
