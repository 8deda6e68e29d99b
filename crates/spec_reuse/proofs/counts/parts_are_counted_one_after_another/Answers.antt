use Rattle.spec_reuse.proofs.Counting.{one_after_another}
use Rattle.spec_reuse.proofs.counts.parts_are_counted_one_after_another.Goals as goal

pub returns : goal.returns
returns c = one_after_another
