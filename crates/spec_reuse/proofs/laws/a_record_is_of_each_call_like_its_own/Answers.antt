use Rattle.spec_reuse.proofs.Declared.{taken_is_true}
use Rattle.spec_reuse.proofs.laws.a_record_is_of_each_call_like_its_own.Goals as goal

pub returns : goal.returns
returns c = taken_is_true
