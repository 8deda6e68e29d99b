use Rattle.std.proofs.lemmas.Str.{chars-nil}
use Rattle.xt_lift.proofs.item_name.name_text.Goals as goal

pub returns-in-None : goal.returns-in-None
returns-in-None c = rw c.in-None.is chars-nil
