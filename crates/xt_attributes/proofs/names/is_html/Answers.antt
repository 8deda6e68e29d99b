use Rattle.std.proofs.Common.{◌≡◌, codes, bytes_eq}
use Rattle.std.specs.Str.{chars}
use Rattle.xt_attributes.proofs.names.is_html.Goals as goal

pub returns : goal.returns
unfolding chars
returns c = let e : c.is.result ≡ bytes_eq c.args.text.now (codes "html") = c.is.ensures in e
