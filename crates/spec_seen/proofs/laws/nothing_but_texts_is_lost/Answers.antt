use Rattle.spec_seen.specs.Seen.{at_root}
use Rattle.spec_seen.proofs.Seeing.{texts_lost}
use Rattle.spec_seen.proofs.laws.nothing_but_texts_is_lost.Goals as goal

pub returns : goal.returns
returns c rules document = texts_lost rules at_root document.nodes
