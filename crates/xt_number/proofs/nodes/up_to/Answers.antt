use Rattle.std.proofs.Common.{refl, ◌∙◌, arith}
use Rattle.spec_transform.specs.Numbering.{matches_there, up_to}
use Rattle.spec_node.specs.Naming.{same_ref}
use Rattle.xt_syntax.specs.PartView.{pattern_of}
use Rattle.xt_questions.specs.View.{context_of}
use Rattle.xt_questions.proofs.Steps.{runs_then, runs_stop, runs_gives, runs_memory, runs_from, goes_on, next_turn, last_turn, exits}
use Rattle.xt_number.proofs.Turns.{at}
use Rattle.xt_number.proofs.nodes.up_to.Goals as goal

pub returns-in_err-matches-clause-runs : goal.returns-in_err-matches-clause-runs
returns-in_err-matches-clause-runs g c f =
    let test = matches_there same_ref (context_of f c.args.context.now) (pattern_of c.args.from.now) in
    let turn = next_turn (up_to test c.loop-node.nearer.items) c.args.nodes.now c.loop-node.node-index _ (omega arith) (c.loop-node.invariant.same f) in
    exits _ c.from_residual.ensures.1 (runs_from turn (runs_stop _ (c.in_err-matches.ensures.runs (at c.args.nodes.now c.loop-node.node-index))))

pub returns-then-matches-clause-runs : goal.returns-then-matches-clause-runs
returns-then-matches-clause-runs g c f =
    let test = matches_there same_ref (context_of f c.args.context.now) (pattern_of c.args.from.now) in
    let turn = next_turn (up_to test c.loop-node.nearer.items) c.args.nodes.now c.loop-node.node-index _ (omega arith) (c.loop-node.invariant.same f) in
    runs_from turn (runs_then _ (c.in_ok-matches.ensures.runs (at c.args.nodes.now c.loop-node.node-index)) (rw c.if-matches.true (runs_gives refl)))

pub returns-in_err-push-clause-runs : goal.returns-in_err-push-clause-runs
returns-in_err-push-clause-runs g c f =
    let test = matches_there same_ref (context_of f c.args.context.now) (pattern_of c.args.from.now) in
    let turn = next_turn (up_to test c.loop-node.nearer.items) c.args.nodes.now c.loop-node.node-index _ (omega arith) (c.loop-node.invariant.same f) in
    let on = goes_on _ turn (c.in_ok-matches.ensures.runs (at c.args.nodes.now c.loop-node.node-index)) in
    exits _ c.from_residual-in_err-push.ensures.1 (runs_from on (runs_memory refl refl))

pub returns-clause-runs : goal.returns-clause-runs
returns-clause-runs g c f =
    let test = matches_there same_ref (context_of f c.args.context.now) (pattern_of c.args.from.now) in
    runs_from (last_turn (up_to test c.loop-node.nearer.items) c.args.nodes.now c.loop-node.node-index (omega arith) (c.loop-node.invariant.same f)) (runs_gives refl)

pub loop-node-preserved : goal.loop-node-preserved
loop-node-preserved g c =
    record {
      same = λ f.
          let test = matches_there same_ref (context_of f c.args.context.now) (pattern_of c.args.from.now) in
          let turn = next_turn (up_to test c.loop-node.nearer.items) c.args.nodes.now c.loop-node.node-index _ (omega arith) (c.loop-node.invariant.same f) in
          let on = goes_on _ turn (c.in_ok-matches.ensures.runs (at c.args.nodes.now c.loop-node.node-index)) in
          rw c.in_ok-push.ensures.items (rw c.if-matches.false at on);
      name = c.matches.ensures.name ∙ c.loop-node.invariant.name;
    }
