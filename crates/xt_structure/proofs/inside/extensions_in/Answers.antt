use Rattle.std.proofs.Common.{◌≡◌, true, false, map}
use Rattle.std.specs.Option.{option_copied}
use Rattle.std.specs.Str.{chars}
use Rattle.spec_structure.specs.Inside.{value_of, extension_name}
use Rattle.xt_tree.specs.View.{written_of}
use Rattle.xt_structure.proofs.inside.extensions_in.Goals as goal

pub returns-then-is_xslt : goal.returns-then-is_xslt
unfolding chars
returns-then-is_xslt c =
    let e : option_copied c.value_of.result ≡ value_of c.args.scope.now (extension_name true) (map written_of c.args.attributes.now) = c.value_of.ensures in
    rw c.if-is_xslt.true e

pub returns : goal.returns
unfolding chars
returns c =
    let e : option_copied c.value_of-2.result ≡ value_of c.args.scope.now (extension_name false) (map written_of c.args.attributes.now) = c.value_of-2.ensures in
    rw c.if-is_xslt.false e
