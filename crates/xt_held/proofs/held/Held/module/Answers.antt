use Rattle.std.proofs.Common.{◌∙◌}
use Rattle.xt_world.proofs.Keys.{by_characters}
use Rattle.xt_held.proofs.held.Held.module.Goals as goal

pub returns : goal.returns
returns c = c.get.ensures.value ∙ by_characters c.args.name.now c.utf8.name c.args.self.now.modules.entries
