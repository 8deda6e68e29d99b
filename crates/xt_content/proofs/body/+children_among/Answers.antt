use Rattle.std.proofs.Common.{◌+◌, drop, map, sym, ap, ◌∙◌, refl, subst, arith}
use Rattle.spec_compile.specs.Content.{around_of, children_among}
use Rattle.spec_structure.specs.Inside.{role_of}
use Rattle.xt_content.specs.View.{around_in, below_in, visit_in}
use Rattle.xt_content.specs.Visit.{nothing_visited}
use Rattle.xt_content.proofs.Siblings.{at_element, before_rest, begins, ends, holds, holds_fault, later_is, skips, stops, turn}
use Rattle.xt_content.proofs.Steps.{Continues, answers_stop, exits, last_turn, next_turn}
use Rattle.xt_structure.specs.View.{in_force}
use Rattle.xt_tree.specs.View as nodes
use Rattle.xt_tree.specs.View.{forest_of, tree_of, written_of}
use Rattle.xt_content.proofs.body.+children_among.Goals as goal

pub children_among-loop-i-init : goal.children_among-loop-i-init
children_among-loop-i-init t c =
    let all = children_among (around_in c.args.around.now) c.args.kind c.args.path.now 1 (forest_of c.args.siblings.now) in
    subst (λ b. Continues (before_rest all b) all) (sym c.new-found.ensures) (begins all)

pub children_among-returns-in_err-visit : goal.children_among-returns-in_err-visit
children_among-returns-in_err-visit t c =
    let around = around_in c.args.around.now in
    let path = c.args.path.now in
    let done = below_in c.loop-i.found in
    let next = next_turn (λ rest. before_rest (children_among around c.loop-i.kind path (c.loop-i.i + 1) (forest_of rest)) done) c.args.siblings.now c.loop-i.i c.index-siblings-i.result (omega arith) c.loop-i.invariant in
    let here = rw (← c.index-siblings-i.is) at next in
    exits _ c.from_residual.ensures.1
    (stops around c.loop-i.kind path (c.loop-i.i + 1) done (tree_of c.index-siblings-i.result.value) (map (λ n. tree_of n.value) (drop (c.loop-i.i + 1) c.args.siblings.now)) here
    (later_is around c.loop-i.kind path (c.loop-i.i + 1) c.args.siblings.now (c.loop-i.i + 1) (tree_of c.index-siblings-i.result.value) (rw c.deref.ensures at c.in_err-visit.ensures)))

pub children_among-loop-i-preserved : goal.children_among-loop-i-preserved
children_among-loop-i-preserved t c =
    let around = around_in c.args.around.now in
    let path = c.args.path.now in
    let done = below_in c.loop-i.found in
    let next = next_turn (λ rest. before_rest (children_among around c.loop-i.kind path (c.loop-i.i + 1) (forest_of rest)) done) c.args.siblings.now c.loop-i.i c.index-siblings-i.result (omega arith) c.loop-i.invariant in
    let here = rw (← c.index-siblings-i.is) at next in
    let heard = later_is around c.loop-i.kind path (c.loop-i.i + 1) c.args.siblings.now (c.loop-i.i + 1) (tree_of c.index-siblings-i.result.value) (rw c.deref.ensures at c.in_ok-visit.ensures) in
    subst (λ so_far. Continues (before_rest (children_among around c.in_ok-visit.visit.next path (c.loop-i.i + 1 + 1) (forest_of (drop (c.loop-i.i + 1) c.args.siblings.now))) so_far)
    (children_among around c.args.kind path 1 (forest_of c.args.siblings.now)))
    (sym c.in_ok-push.ensures)
    (turn around c.loop-i.kind path (c.loop-i.i + 1) done (visit_in c.in_ok-visit.visit) (tree_of c.index-siblings-i.result.value)
    (map (λ n. tree_of n.value) (drop (c.loop-i.i + 1) c.args.siblings.now)) here heard.so)

pub children_among-returns : goal.children_among-returns
children_among-returns t c =
    let around = around_in c.args.around.now in
    let path = c.args.path.now in
    ends around c.loop-i.kind path (c.loop-i.i + 1) (below_in c.loop-i.found) refl
    (last_turn (λ rest. before_rest (children_among around c.loop-i.kind path (c.loop-i.i + 1) (forest_of rest)) (below_in c.loop-i.found)) c.args.siblings.now c.loop-i.i (omega arith) c.loop-i.invariant)

pub visit-returns-in_ok-inner-in-Element : goal.visit-returns-in_ok-inner-in-Element
visit-returns-in_ok-inner-in-Element t c =
    at_element (around_in c.args.around.now) c.args.kind c.args.path.now c.args.position (forest_of c.args.later.now) (tree_of c.args.node.now).content (tree_of c.args.node.now).children (forest_of c.children.result.now)
    (around_in c.in_ok-inner-in-Element.inner) c.in_ok-here-in-Element.here c.in-Element.name (map written_of c.in-Element.attributes.items)
    (ap nodes.content_of (sym c.in-Element.is) ∙ c.content.ensures)
    (c.in_ok-inner-in-Element.ensures ∙ ap (λ a. around_of (around_in c.args.around.now) c.in-Element.name (map written_of a)) c.as_slice.ensures.value)
    c.in_ok-here-in-Element.ensures c.children.ensures.forest
    (rw c.as_slice-written.ensures.value at c.visit_element.ensures)

pub visit_element-returns-in_err-met : goal.visit_element-returns-in_err-met
visit_element-returns-in_err-met t c = exits _ c.from_residual.ensures.1 (answers_stop _ c.in_err-met.ensures)

pub visit_element-returns-in-None : goal.visit_element-returns-in-None
visit_element-returns-in-None t c =
    skips (around_in c.args.inner.now) c.args.kind c.args.here.now c.args.name.now (map written_of c.args.attributes.now) (forest_of c.args.nodes.now) (role_of (in_force c.args.inner.now.inside) c.args.name.now)
    (sym c.in-None.is ∙ c.content_by.ensures) c.in_ok-met.ensures (c.visit_nothing.ensures ∙ ap nothing_visited c.next_kind-next.ensures)

pub visit_element-returns-in_err-found-in-Some : goal.visit_element-returns-in_err-found-in-Some
visit_element-returns-in_err-found-in-Some t c =
    exits _ c.from_residual-in_err-found-in-Some.ensures.1
    (holds_fault (around_in c.args.inner.now) c.args.kind c.args.here.now c.args.name.now (map written_of c.args.attributes.now) (forest_of c.args.nodes.now) (role_of (in_force c.args.inner.now.inside) c.args.name.now)
    (sym c.in-Some.is ∙ c.content_by.ensures) c.in_ok-met.ensures c.in_err-found-in-Some.ensures)

pub visit_element-returns-in_ok-one-in-Some : goal.visit_element-returns-in_ok-one-in-Some
visit_element-returns-in_ok-one-in-Some t c =
    holds (around_in c.args.inner.now) c.args.kind c.args.here.now c.args.name.now (map written_of c.args.attributes.now) (forest_of c.args.nodes.now) (role_of (in_force c.args.inner.now.inside) c.args.name.now)
    (sym c.in-Some.is ∙ c.content_by.ensures) c.in_ok-met.ensures c.in_ok-found-in-Some.ensures
    (λ i. record { below = c.in_ok-one-in-Some.ensures i; next = c.next_kind-next.ensures i })
