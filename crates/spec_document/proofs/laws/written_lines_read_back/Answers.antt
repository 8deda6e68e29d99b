use Rattle.spec_document.proofs.Lines.{event_of-line_of}
use Rattle.spec_document.proofs.laws.written_lines_read_back.Goals as goal

pub returns : goal.returns
returns c = event_of-line_of
