use Rattle.std.proofs.Common.{rules}
use Rattle.std.proofs.lemmas.Slice.Eq.{slice_eq-Decides}
use Rattle.xt_world.proofs.common.same_elements.Goals as goal

pub returns : goal.returns
returns c = slice_eq-Decides (λ r s. search rules) c.args.elements.now c.args.others.now c.eq.result c.eq.ensures
