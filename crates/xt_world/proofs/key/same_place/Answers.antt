use Rattle.xt_world.proofs.Elements.{decided}
use Rattle.xt_world.proofs.key.same_place.Goals as goal

pub returns : goal.returns
returns c = decided c.args.place.now c.args.other.now c.same.result c.same.ensures
