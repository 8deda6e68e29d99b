use Rattle.std.proofs.Common.{◌≡◌, map}
use Rattle.std.specs.Option.{option_copied}
use Rattle.std.specs.Str.{chars}
use Rattle.spec_structure.specs.Structure.{href_in}
use Rattle.xt_tree.specs.View.{written_of}
use Rattle.xt_structure.proofs.links.href_in.Goals as goal

pub returns : goal.returns
unfolding chars
returns c = let e : option_copied c.value_named.result ≡ href_in c.args.scope.now (map written_of c.args.attributes.now) = c.value_named.ensures in e
