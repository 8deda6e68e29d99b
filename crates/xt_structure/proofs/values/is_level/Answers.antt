use Rattle.std.proofs.Common.{◌≡◌}
use Rattle.std.specs.Str.{chars}
use Rattle.spec_structure.specs.Structure.{is_level}
use Rattle.xt_structure.proofs.values.is_level.Goals as goal

pub returns : goal.returns
unfolding chars
returns c = let e : c.is_one_of.result ≡ is_level (chars c.args.text.now) = c.is_one_of.ensures in e
