use Rattle.spec_reuse.proofs.Within.{none_within_itself}
use Rattle.spec_reuse.proofs.laws.a_call_does_not_repeat_within_itself.Goals as goal

pub returns : goal.returns
returns c = none_within_itself
