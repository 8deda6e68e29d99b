use Rattle.std.proofs.Common.{◌≡◌, bytes_eq, codes}
use Rattle.std.specs.Str.{chars}
use Rattle.xt_top_level.proofs.alias.is_default.Goals as goal

pub returns : goal.returns
unfolding chars
returns c = let e : c.is.result ≡ bytes_eq c.args.word.now (codes "#default") = c.is.ensures in e
