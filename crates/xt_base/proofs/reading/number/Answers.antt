use Rattle.spec_expression.specs.Number.{number_of}
use Rattle.xt_base.proofs.reading.number.Goals as goal

pub returns : goal.returns
unfolding number_of
returns c = rw (← c.trimmed.ensures) c.signed.ensures
