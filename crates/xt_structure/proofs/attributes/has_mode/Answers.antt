use Rattle.std.proofs.Common.{◌≡◌, map, codes}
use Rattle.std.specs.Str.{chars}
use Rattle.spec_structure.specs.Structure.{has_attribute}
use Rattle.xt_tree.specs.View.{written_of}
use Rattle.xt_structure.proofs.attributes.has_mode.Goals as goal

pub returns : goal.returns
unfolding chars
returns c = let e : c.has_attribute.result ≡ has_attribute c.args.scope.now (codes "mode") (map written_of c.args.attributes.now) = c.has_attribute.ensures in e
