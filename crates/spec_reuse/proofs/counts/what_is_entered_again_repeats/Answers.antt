use Rattle.spec_reuse.proofs.Within.{repeats_later}
use Rattle.spec_reuse.proofs.counts.what_is_entered_again_repeats.Goals as goal

pub returns : goal.returns
returns c = repeats_later
