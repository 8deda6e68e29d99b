use Rattle.std.proofs.Common.{rules}
use Rattle.std.proofs.lemmas.Slice.Eq.{slice_eq-Decides}
use Rattle.xt_own.proofs.asked.same_nodes.Goals as goal

pub returns : goal.returns
returns c = (slice_eq-Decides (λ r s. search rules) c.args.nodes.now c.args.others.now c.eq.result c.eq.ensures).0
