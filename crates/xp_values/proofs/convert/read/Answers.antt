use Rattle.xp_values.proofs.Faults.{given_so}
use Rattle.xp_values.proofs.convert.read.Goals as goal

pub returns : goal.returns
returns c supply depth s = rw (← c.as_str.ensures.characters) (given_so _ _ c.read.ensures (c.given.ensures supply depth s))
