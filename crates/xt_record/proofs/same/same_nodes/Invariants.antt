use Rattle.std.proofs.Common.{◌≡◌, take}
use Rattle.xt_record.proofs.same.same_nodes.Given as goal

abbrev pub invariant-loop-index : goal.invariant-loop-index
invariant-loop-index l = take l.index l.nodes ≡ take l.index l.others
