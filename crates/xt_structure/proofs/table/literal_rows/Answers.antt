use Rattle.std.proofs.Common.{refl}
use Rattle.std.specs.Str.{chars}
use Rattle.xt_structure.proofs.table.literal_rows.Goals as goal

pub returns : goal.returns
unfolding chars
returns c = refl
