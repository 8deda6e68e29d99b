use Rattle.spec_transform.proofs.Keyed.{refused_for_all}
use Rattle.spec_transform.proofs.keying.a_refusal_is_of_all_values.Goals as goal

pub returns : goal.returns
returns c = refused_for_all
