use Rattle.std.proofs.Common.{◌≡◌, map}
use Rattle.std.specs.Option.{option_copied}
use Rattle.std.specs.Str.{chars}
use Rattle.spec_structure.specs.Inside.{value_of, space_name}
use Rattle.xt_tree.specs.View.{written_of}
use Rattle.xt_structure.proofs.inside.space_in.Goals as goal

pub returns : goal.returns
unfolding chars
returns c = let e : option_copied c.value_of.result ≡ value_of c.args.scope.now space_name (map written_of c.args.attributes.now) = c.value_of.ensures in e
