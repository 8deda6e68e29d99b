use Rattle.std.proofs.Common.{◌≡◌, map}
use Rattle.std.specs.Str.{chars}
use Rattle.std.specs.Option.{option_copied}
use Rattle.spec_structure.specs.Inside.{value_of, in_no_namespace}
use Rattle.xt_tree.specs.View.{written_of}
use Rattle.xt_structure.proofs.attributes.value_named.Goals as goal

pub returns : goal.returns
unfolding chars
returns c = let e : option_copied c.value_of.result ≡ value_of c.args.scope.now (in_no_namespace (chars c.args.local.now)) (map written_of c.args.attributes.now) = c.value_of.ensures in e
