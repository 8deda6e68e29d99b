use Rattle.xt_world.proofs.Elements.{turns_tell}
use Rattle.xt_world.proofs.numbers.by_turns.Goals as goal

pub returns-clause-naming : goal.returns-clause-naming
returns-clause-naming c = turns_tell (record { units = c.args.units; places = c.in_ok-places.places }) c.in_ok-places.ensures
