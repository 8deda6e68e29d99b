use Rattle.std.proofs.Common.{◌≡◌, map, drop}
use Rattle.spec_result.specs.Shape.{with_nodes}
use Rattle.xt_names.specs.View.{entry_of}
use Rattle.xt_result.specs.View.{opening_of}
use Rattle.xt_result.proofs.declare.copy_nodes.Given as goal

-- the nodes ahead are all that is still to be copied
abbrev pub invariant-loop-namespace : goal.invariant-loop-namespace
invariant-loop-namespace l =
    with_nodes (map entry_of (drop l.namespace-index l.namespaces)) (opening_of l.opening) ≡ with_nodes (map entry_of l.namespaces) (opening_of l.fn.opening)
