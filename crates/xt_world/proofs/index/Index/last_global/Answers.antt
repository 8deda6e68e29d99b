use Rattle.std.proofs.Common.{◌∙◌}
use Rattle.xt_world.proofs.index.Index.last_global.Goals as goal

pub returns : goal.returns
returns c = c.place_of_name.ensures ∙ c.requires (record { name = c.args.name })
