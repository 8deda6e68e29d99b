use Rattle.spec_agreement.proofs.Keeping.{kept_suffices}
use Rattle.spec_agreement.proofs.instantiations.what_is_kept_suffices.Goals as goal

pub returns : goal.returns
returns c = kept_suffices
