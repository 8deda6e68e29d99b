use Rattle.std.proofs.Common.{◌≡◌, drop}
use Rattle.std.specs.List.{list_any}
use Rattle.spec_node.specs.Naming.{same_ref}
use Rattle.xt_match.proofs.same.is_one.Given as goal

abbrev pub invariant-loop-other : goal.invariant-loop-other
invariant-loop-other l = list_any (same_ref l.node) (drop l.other-index l.nodes) ≡ list_any (same_ref l.node) l.nodes
