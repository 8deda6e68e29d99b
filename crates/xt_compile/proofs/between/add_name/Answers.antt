use Rattle.std.proofs.Common.{ap, ◌∙◌}
use Rattle.std.specs.Str.{chars}
use Rattle.xt_compile.proofs.Faults.{name_added}
use Rattle.xt_compile.proofs.between.add_name.Goals as goal

pub returns : goal.returns
returns c q =
    name_added q c.args.name.now c.args.faulty.now.keys c.insert.new.self.keys c.in_ok-key.key (ap chars c.in_ok-key.ensures.ok ∙ c.as_str.ensures.characters)
    (c.in_ok-insert.ensures {u = tt}).keys
