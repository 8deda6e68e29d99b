use Rattle.spec_matching.proofs.Unmoved.{kept_anywhere}
use Rattle.spec_matching.proofs.laws.what_reads_no_position_says_the_same_anywhere.Goals as goal

pub returns : goal.returns
returns c = kept_anywhere
