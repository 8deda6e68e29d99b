use Rattle.std.proofs.Common.{◌≡◌, drop, map}
use Rattle.spec_expression.specs.Syntax.{exprs, links, steps}
use Rattle.spec_meaning.specs.Supplies.{at_hand}
use Rattle.spec_transform.specs.Numbering.{names_in_all, names_in_links, names_in_steps, referred_to}
use Rattle.xt_syntax.specs.View.{expr_of, link_of, step_of}
use Rattle.xt_questions.specs.View.{context_of, supplies_of}
use Rattle.xt_questions.specs.Runs.{Continues}
use Rattle.xt_number.proofs.variables.+refer.Given as goal

abbrev pub invariant-refer_in_all-loop-expr : goal.invariant-refer_in_all-loop-expr
invariant-refer_in_all-loop-expr g l =
    let state = g.W.World.state in
    let c = context_of l.focus l.context in
    record {
      same :
          Continues (at_hand (supplies_of l.supplies) l.context.depth) l.context.depth
          (referred_to (names_in_all (exprs (map expr_of (drop l.expr-index l.list)))) c) (state l.world)
          (referred_to (names_in_all (exprs (map expr_of l.list))) c) (state l.fn.world);
      name : g.W.World.name l.world ≡ g.W.World.name l.fn.world;
    }

abbrev pub invariant-refer_in_links-loop-link : goal.invariant-refer_in_links-loop-link
invariant-refer_in_links-loop-link g l =
    let state = g.W.World.state in
    let c = context_of l.focus l.context in
    record {
      same :
          Continues (at_hand (supplies_of l.supplies) l.context.depth) l.context.depth
          (referred_to (names_in_links (links (map link_of (drop l.link-index l.list)))) c) (state l.world)
          (referred_to (names_in_links (links (map link_of l.list))) c) (state l.fn.world);
      name : g.W.World.name l.world ≡ g.W.World.name l.fn.world;
    }

abbrev pub invariant-refer_in_steps-loop-step : goal.invariant-refer_in_steps-loop-step
invariant-refer_in_steps-loop-step g l =
    let state = g.W.World.state in
    let c = context_of l.focus l.context in
    record {
      same :
          Continues (at_hand (supplies_of l.supplies) l.context.depth) l.context.depth
          (referred_to (names_in_steps (steps (map step_of (drop l.step-index l.list)))) c) (state l.world)
          (referred_to (names_in_steps (steps (map step_of l.list))) c) (state l.fn.world);
      name : g.W.World.name l.world ≡ g.W.World.name l.fn.world;
    }
