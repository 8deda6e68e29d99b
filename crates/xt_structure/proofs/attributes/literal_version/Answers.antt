use Rattle.std.proofs.Common.{◌≡◌, map, codes}
use Rattle.std.specs.Str.{chars}
use Rattle.std.specs.Option.{option_copied}
use Rattle.spec_structure.specs.Inside.{value_of, of_xslt}
use Rattle.xt_tree.specs.View.{written_of}
use Rattle.xt_structure.proofs.attributes.literal_version.Goals as goal

pub returns : goal.returns
unfolding chars
returns c = let e : option_copied c.value_of.result ≡ value_of c.args.scope.now (of_xslt (codes "version")) (map written_of c.args.attributes.now) = c.value_of.ensures in e
