use Rattle.std.proofs.Common.{◌≡◌, ◌+◌, drop}
use Rattle.spec_transform.specs.Match.{position_of}
use Rattle.spec_node.specs.Naming.{same_ref}
use Rattle.xt_match.proofs.predicate.position_of.Given as goal

abbrev pub invariant-loop-i : goal.invariant-loop-i
invariant-loop-i l = position_of same_ref l.node (l.i + 1) (drop l.i l.nodes) ≡ position_of same_ref l.node 1 l.nodes
