use Rattle.spec_seen.specs.Seen.{at_root}
use Rattle.spec_seen.proofs.Seeing.{plain_seen}
use Rattle.spec_seen.proofs.laws.labels_do_not_matter.Goals as goal

pub returns : goal.returns
returns c rules document = plain_seen rules at_root document.nodes
