use Rattle.spec_agreement.proofs.Turning.{kept_is_true}
use Rattle.spec_agreement.proofs.instantiations.what_is_made_is_true_to_keep.Goals as goal

pub returns : goal.returns
returns c = kept_is_true
