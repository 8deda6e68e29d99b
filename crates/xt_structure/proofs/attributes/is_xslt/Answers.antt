use Rattle.std.proofs.Common.{◌≡◌, bytes_eq}
use Rattle.std.specs.Str.{chars}
use Rattle.spec_document.specs.Scope.{xslt_uri}
use Rattle.xt_structure.proofs.attributes.is_xslt.Goals as goal

pub returns : goal.returns
unfolding chars
returns c = let e : c.is_of.result ≡ bytes_eq c.args.name.now.uri xslt_uri = c.is_of.ensures in e
