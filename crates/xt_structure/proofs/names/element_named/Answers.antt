use Rattle.std.proofs.Common.{◌≡◌}
use Rattle.std.specs.Str.{chars}
use Rattle.spec_structure.specs.Elements.{element_named, element_in, names}
use Rattle.xt_structure.proofs.names.element_named.Goals as goal

pub returns : goal.returns
unfolding chars element_named
returns c =
    let f : c.element_in.result ≡ element_in names (chars c.args.local.now) = c.element_in.ensures in f
