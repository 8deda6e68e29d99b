use Rattle.spec_compile.proofs.Answers.{some_value}
use Rattle.spec_compile.proofs.laws.no_want_of_reading.Goals as goal

pub returns : goal.returns
returns c = some_value
