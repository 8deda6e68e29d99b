use Rattle.std.proofs.Common.{◌+◌, ◌∙◌, sym, ap, drop, map, arith}
use Rattle.std.proofs.lemmas.List.{at_drop_more, at_drop_all}
use Rattle.spec_result.specs.Shape.{with_nodes}
use Rattle.xt_names.specs.View.{entry_of}
use Rattle.xt_result.specs.View.{opening_of}
use Rattle.xt_result.proofs.declare.copy_nodes.Goals as goal

pub loop-namespace-preserved : goal.loop-namespace-preserved
loop-namespace-preserved c =
    let known = opening_of c.loop-namespace.opening in
    let list = c.args.namespaces.now in
    let item = c.namespace-item.result in
    let at = at_drop_more (λ xs. with_nodes (map entry_of xs) known) list c.loop-namespace.namespace-index item (omega arith) in
    let here = rw (← c.namespace-item.is) at at in
    ap (with_nodes (map entry_of (drop (c.loop-namespace.namespace-index + 1) list))) c.in_ok-copy_node.ensures ∙ sym here ∙ c.loop-namespace.invariant

pub returns : goal.returns
returns c =
    sym (at_drop_all (λ xs. with_nodes (map entry_of xs) (opening_of c.loop-namespace.opening)) c.args.namespaces.now c.loop-namespace.namespace-index (omega arith))
    ∙ c.loop-namespace.invariant
