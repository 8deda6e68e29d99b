use Rattle.std.proofs.Common.{◌≡◌, codes, bytes_eq}
use Rattle.std.specs.Str.{chars}
use Rattle.xt_structure.proofs.values.is_default.Goals as goal

pub returns : goal.returns
unfolding chars
returns c = let e : c.is.result ≡ bytes_eq c.args.word.now (codes "#default") = c.is.ensures in e
