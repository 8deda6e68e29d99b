use Rattle.std.proofs.Common.{ap, refl, Some, ◌∙◌}
use Rattle.std.specs.Str.{chars}
use Rattle.xt_compile.specs.View.{said_in}
use Rattle.xt_compile.proofs.Stocked.{put_found, put_in}
use Rattle.xt_compile.proofs.stock.put.Goals as goal

pub returns : goal.returns
returns c others stock =
    put_in (said_in c.args.said) c.args.said.top_levels others c.args.stock.now.entries c.insert.new.self.entries refl
    (put_found c.args.stock.now.entries c.insert.new.self.entries c.in_ok-name.name c.args.said.module_name (Some c.args.said.top_levels)
    (ap chars c.in_ok-name.ensures.ok ∙ c.as_str.ensures.characters) (c.in_ok-insert.ensures {u = tt}).entries) stock
