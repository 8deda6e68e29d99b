use Rattle.std.proofs.Common.{◌≡◌, ◌&&◌, [], bytes_eq, codes}
use Rattle.std.specs.Str.{chars}
use Rattle.xt_attributes.proofs.walk.is_key.Goals as goal

pub returns : goal.returns
unfolding chars
returns c = let e : c.is_called.result ≡ (bytes_eq c.args.name.now.uri [] && bytes_eq c.args.name.now.local (codes "key")) = c.is_called.ensures in e
