use Rattle.std.proofs.Common.{◌≡◌, ◌+◌, drop, length, map, []}
use Rattle.spec_expression.specs.Syntax.{exprs, links, steps}
use Rattle.spec_meaning.specs.Meaning.{meaning, values_of, chained, kept, kept_by, along, stepped}
use Rattle.spec_meaning.specs.Supplies.{at_hand}
use Rattle.xt_syntax.specs.View.{expr_of, link_of, step_of}
use Rattle.xt_tree.specs.ValueView.{value_of}
use Rattle.xt_questions.specs.declared.context.Focus.{Focus}
use Rattle.xt_questions.specs.View.{context_of, supplies_of}
use Rattle.xt_questions.specs.Runs.{Continues}
use Rattle.xp_eval.specs.View.{values_in}
use Rattle.xp_eval.proofs.expression.+eval.Given as goal

abbrev pub invariant-values-loop-argument : goal.invariant-values-loop-argument
invariant-values-loop-argument g l =
    let state = g.W.World.state in
    let c = context_of l.focus l.context in
    record {
      same :
          Continues (at_hand (supplies_of l.supplies) l.context.depth) l.context.depth
          (values_of (exprs (map expr_of (drop l.argument-index l.arguments))) c (values_in l.done)) (state l.world)
          (values_of (exprs (map expr_of l.arguments)) c []) (state l.fn.world);
      name : g.W.World.name l.world ≡ g.W.World.name l.fn.world;
    }

abbrev pub invariant-chained-loop-link : goal.invariant-chained-loop-link
invariant-chained-loop-link g l =
    let state = g.W.World.state in
    let c = context_of l.focus l.context in
    record {
      same :
          Continues (at_hand (supplies_of l.supplies) l.context.depth) l.context.depth
          (chained (links (map link_of (drop l.link-index l.further))) c (value_of l.value)) (state l.world)
          (chained (links (map link_of l.further)) c (value_of l.fn.first)) (state l.fn.world);
      name : g.W.World.name l.world ≡ g.W.World.name l.fn.world;
    }

abbrev pub invariant-kept-loop-i : goal.invariant-kept-loop-i
invariant-kept-loop-i g l =
    let state = g.W.World.state in
    let p = meaning (expr_of l.predicate) in
    record {
      same : (f : Focus) →
          Continues (at_hand (supplies_of l.supplies) l.context.depth) l.context.depth
          (kept p (context_of f l.context) (length l.nodes) (l.i + 1) l.done.items (drop l.i l.nodes)) (state l.world)
          (kept p (context_of f l.context) (length l.nodes) 1 [] l.nodes) (state l.fn.world);
      name : g.W.World.name l.world ≡ g.W.World.name l.fn.world;
    }

abbrev pub invariant-kept_by-loop-predicate : goal.invariant-kept_by-loop-predicate
invariant-kept_by-loop-predicate g l =
    let state = g.W.World.state in
    record {
      same : (f : Focus) →
          Continues (at_hand (supplies_of l.supplies) l.context.depth) l.context.depth
          (kept_by (exprs (map expr_of (drop l.predicate-index l.predicates))) (context_of f l.context) l.rest.items) (state l.world)
          (kept_by (exprs (map expr_of l.predicates)) (context_of f l.context) l.fn.nodes.items) (state l.fn.world);
      name : g.W.World.name l.world ≡ g.W.World.name l.fn.world;
    }

abbrev pub invariant-along-loop-step : goal.invariant-along-loop-step
invariant-along-loop-step g l =
    let state = g.W.World.state in
    record {
      same : (f : Focus) →
          Continues (at_hand (supplies_of l.supplies) l.context.depth) l.context.depth
          (along (steps (map step_of (drop l.step-index l.route))) (context_of f l.context) l.at.items) (state l.world)
          (along (steps (map step_of l.route)) (context_of f l.context) l.fn.nodes.items) (state l.fn.world);
      name : g.W.World.name l.world ≡ g.W.World.name l.fn.world;
    }

abbrev pub invariant-stepped-loop-node : goal.invariant-stepped-loop-node
invariant-stepped-loop-node g l =
    let state = g.W.World.state in
    let s = step_of l.step in
    record {
      same : (f : Focus) →
          Continues (at_hand (supplies_of l.supplies) l.context.depth) l.context.depth
          (stepped (kept_by s.predicates (context_of f l.context)) s.axis s.test l.done.items (drop l.node-index l.nodes)) (state l.world)
          (stepped (kept_by s.predicates (context_of f l.context)) s.axis s.test [] l.nodes) (state l.fn.world);
      name : g.W.World.name l.world ≡ g.W.World.name l.fn.world;
    }
