use Rattle.std.proofs.Common.{◌∙◌}
use Rattle.xt_edit.proofs.Through.{starts-through}
use Rattle.xt_edit.proofs.relocation.goes_through.Goals as goal

pub returns : goal.returns
returns c = c.starts_with.ensures.value ∙ starts-through c.args.way.now c.args.other.now
