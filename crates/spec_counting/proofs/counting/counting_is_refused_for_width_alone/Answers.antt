use Rattle.spec_counting.proofs.Numbers.{refused_for_width}
use Rattle.spec_counting.proofs.counting.counting_is_refused_for_width_alone.Goals as goal

pub returns : goal.returns
returns c = refused_for_width
