use Rattle.std.proofs.Common.{◌≡◌, bytes_eq}
use Rattle.std.specs.Str.{chars}
use Rattle.spec_document.specs.Scope.{xslt_uri}
use Rattle.xt_content.proofs.literal.is_of_xslt.Goals as goal

pub returns : goal.returns
unfolding chars
returns c = let e : c.is.result ≡ bytes_eq c.args.uri.now xslt_uri = c.is.ensures in e
