use Rattle.spec_counting.proofs.Numbers.{single_is_last}
use Rattle.spec_counting.proofs.counting.the_single_number_is_the_last.Goals as goal

pub returns : goal.returns
returns c = single_is_last
