use Rattle.std.proofs.Common.{◌≡◌, map, codes}
use Rattle.std.specs.Str.{chars}
use Rattle.std.specs.Option.{option_copied}
use Rattle.spec_structure.specs.Inside.{value_of, in_no_namespace}
use Rattle.xt_tree.specs.View.{written_of}
use Rattle.xt_structure.proofs.attributes.version_in.Goals as goal

pub returns : goal.returns
unfolding chars
returns c = let e : option_copied c.value_named.result ≡ value_of c.args.scope.now (in_no_namespace (codes "version")) (map written_of c.args.attributes.now) = c.value_named.ensures in e
