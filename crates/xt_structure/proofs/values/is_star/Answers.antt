use Rattle.std.proofs.Common.{◌≡◌, codes, bytes_eq}
use Rattle.std.specs.Str.{chars}
use Rattle.xt_structure.proofs.values.is_star.Goals as goal

pub returns : goal.returns
unfolding chars
returns c = let e : c.same.result ≡ bytes_eq (chars c.args.text.now) (codes "*") = c.same.ensures in e
