use Rattle.std.proofs.Common.{◌+◌, ◌++◌, ◌∷◌, [], drop, length, map, refl, sym, ◌∙◌, arith}
use Rattle.std.proofs.lemmas.List.{map-append}
use Rattle.spec_expression.specs.Syntax.{exprs, links, steps}
use Rattle.spec_meaning.specs.Meaning.{meaning, values_of, chained, kept, kept_by, along, stepped}
use Rattle.xt_syntax.specs.View.{expr_of, link_of, step_of}
use Rattle.xt_tree.specs.ValueView.{value_of}
use Rattle.spec_meaning.specs.Supplies.{at_hand}
use Rattle.xt_questions.specs.View.{context_of, supplies_of}
use Rattle.xt_questions.proofs.Steps.{runs_then, runs_stop, runs_gives, runs_memory, runs_from, goes_on, next_turn, exits}
use Rattle.xp_eval.specs.View.{values_in}
use Rattle.xp_eval.proofs.Views.{view-Number, view-Variable, view-Call, view-Chain, view-Negation, view-Filter, view-Root, view-Path, view-Link}
use Rattle.xp_eval.proofs.Views.{axis-of, test-of, predicates-of}
use Rattle.xp_eval.proofs.Turns.{step_turn}
use Rattle.xp_eval.proofs.expression.+eval.Goals as goal

pub eval-returns-in-Number-clause-runs : goal.eval-returns-in-Number-clause-runs
eval-returns-in-Number-clause-runs g t c = rw (c.in-Number.is, view-Number) (c.count.ensures _ _ _)

pub eval-returns-in-Variable-clause-runs : goal.eval-returns-in-Variable-clause-runs
eval-returns-in-Variable-clause-runs g t c = rw (c.in-Variable.is, view-Variable) c.variable.ensures.runs

pub eval-returns-in_err-list-in-Call-clause-runs : goal.eval-returns-in_err-list-in-Call-clause-runs
eval-returns-in_err-list-in-Call-clause-runs g t c =
    rw (c.in-Call.is, view-Call, ← c.as_slice.ensures.value) (exits _ c.from_residual-in_err-list-in-Call.ensures.1
    (runs_stop _ c.in_err-list-in-Call.ensures.runs))

pub eval-returns-in_ok-list-in-Call-clause-runs : goal.eval-returns-in_ok-list-in-Call-clause-runs
eval-returns-in_ok-list-in-Call-clause-runs g t c =
    rw (c.in-Call.is, view-Call, ← c.as_slice.ensures.value) (runs_then _ c.in_ok-list-in-Call.ensures.runs c.call.ensures.runs)

pub eval-returns-in_err-value-in-Chain-clause-runs : goal.eval-returns-in_err-value-in-Chain-clause-runs
eval-returns-in_err-value-in-Chain-clause-runs g t c =
    rw (c.in-Chain.is, view-Chain, ← c.deref.ensures) (exits _ c.from_residual-in_err-value-in-Chain.ensures.1
    (runs_stop _ c.in_err-value-in-Chain.ensures.runs))

pub eval-returns-in_ok-value-in-Chain-clause-runs : goal.eval-returns-in_ok-value-in-Chain-clause-runs
eval-returns-in_ok-value-in-Chain-clause-runs g t c =
    rw (c.in-Chain.is, view-Chain, ← c.deref.ensures, ← c.as_slice-in-Chain.ensures.value)
    (runs_then _ c.in_ok-value-in-Chain.ensures.runs c.chained.ensures.runs)

pub eval-returns-in_err-value-in-Negation-clause-runs : goal.eval-returns-in_err-value-in-Negation-clause-runs
eval-returns-in_err-value-in-Negation-clause-runs g t c =
    rw (c.in-Negation.is, view-Negation, ← c.deref-in-Negation.ensures) (exits _ c.from_residual-in_err-value-in-Negation.ensures.1
    (runs_stop _ c.in_err-value-in-Negation.ensures.runs))

pub eval-returns-in_ok-value-in-Negation-clause-runs : goal.eval-returns-in_ok-value-in-Negation-clause-runs
eval-returns-in_ok-value-in-Negation-clause-runs g t c =
    rw (c.in-Negation.is, view-Negation, ← c.deref-in-Negation.ensures)
    (runs_then _ c.in_ok-value-in-Negation.ensures.runs (c.negate.ensures.runs _ _))

pub eval-returns-in_err-value-in-Filter-clause-runs : goal.eval-returns-in_err-value-in-Filter-clause-runs
eval-returns-in_err-value-in-Filter-clause-runs g t c =
    rw (c.in-Filter.is, view-Filter, ← c.deref-in-Filter.ensures) (exits _ c.from_residual-in_err-value-in-Filter.ensures.1
    (runs_stop _ c.in_err-value-in-Filter.ensures.runs))

pub eval-returns-in_err-nodes-in-Filter-clause-runs : goal.eval-returns-in_err-nodes-in-Filter-clause-runs
eval-returns-in_err-nodes-in-Filter-clause-runs g t c =
    rw (c.in-Filter.is, view-Filter, ← c.deref-in-Filter.ensures) (exits _ c.from_residual-in_err-nodes-in-Filter.ensures.1
    (runs_then _ c.in_ok-value-in-Filter.ensures.runs (runs_stop _ (c.in_err-nodes-in-Filter.ensures _ _ _))))

pub eval-returns-in_err-kept-in-Filter-clause-runs : goal.eval-returns-in_err-kept-in-Filter-clause-runs
eval-returns-in_err-kept-in-Filter-clause-runs g t c =
    rw (c.in-Filter.is, view-Filter, ← c.deref-in-Filter.ensures, ← c.as_slice-in-Filter.ensures.value)
    (exits _ c.from_residual-in_err-kept-in-Filter.ensures.1 (runs_then _ c.in_ok-value-in-Filter.ensures.runs
    (runs_then _ (c.in_ok-nodes-in-Filter.ensures _ _ _) (runs_stop _ (c.in_err-kept-in-Filter.ensures.runs c.args.focus)))))

pub eval-returns-in_ok-kept-in-Filter-clause-runs : goal.eval-returns-in_ok-kept-in-Filter-clause-runs
eval-returns-in_ok-kept-in-Filter-clause-runs g t c =
    rw (c.in-Filter.is, view-Filter, ← c.deref-in-Filter.ensures, ← c.as_slice-in-Filter.ensures.value)
    (runs_then _ c.in_ok-value-in-Filter.ensures.runs (runs_then _ (c.in_ok-nodes-in-Filter.ensures _ _ _)
    (runs_then _ (c.in_ok-kept-in-Filter.ensures.runs c.args.focus) (runs_gives refl))))

pub eval-returns-in_err-value-in-Path-clause-runs : goal.eval-returns-in_err-value-in-Path-clause-runs
eval-returns-in_err-value-in-Path-clause-runs g t c =
    rw (c.in-Path.is, view-Path, ← c.deref-in-Path.ensures) (exits _ c.from_residual-in_err-value-in-Path.ensures.1
    (runs_stop _ c.in_err-value-in-Path.ensures.runs))

pub eval-returns-in_err-nodes-in-Path-clause-runs : goal.eval-returns-in_err-nodes-in-Path-clause-runs
eval-returns-in_err-nodes-in-Path-clause-runs g t c =
    rw (c.in-Path.is, view-Path, ← c.deref-in-Path.ensures) (exits _ c.from_residual-in_err-nodes-in-Path.ensures.1
    (runs_then _ c.in_ok-value-in-Path.ensures.runs (runs_stop _ (c.in_err-nodes-in-Path.ensures _ _ _))))

pub eval-returns-in_err-reached-in-Path-clause-runs : goal.eval-returns-in_err-reached-in-Path-clause-runs
eval-returns-in_err-reached-in-Path-clause-runs g t c =
    rw (c.in-Path.is, view-Path, ← c.deref-in-Path.ensures, ← c.as_slice-in-Path.ensures.value)
    (exits _ c.from_residual-in_err-reached-in-Path.ensures.1 (runs_then _ c.in_ok-value-in-Path.ensures.runs
    (runs_then _ (c.in_ok-nodes-in-Path.ensures _ _ _) (runs_stop _ (c.in_err-reached-in-Path.ensures.runs c.args.focus)))))

pub eval-returns-in_ok-reached-in-Path-clause-runs : goal.eval-returns-in_ok-reached-in-Path-clause-runs
eval-returns-in_ok-reached-in-Path-clause-runs g t c =
    rw (c.in-Path.is, view-Path, ← c.deref-in-Path.ensures, ← c.as_slice-in-Path.ensures.value) (runs_then _ c.in_ok-value-in-Path.ensures.runs
    (runs_then _ (c.in_ok-nodes-in-Path.ensures _ _ _) (runs_then _ (c.in_ok-reached-in-Path.ensures.runs c.args.focus) (runs_gives refl))))

pub eval-returns-in-Root-clause-runs : goal.eval-returns-in-Root-clause-runs
eval-returns-in-Root-clause-runs g t c = rw (c.in-Root.is, view-Root) (c.root.ensures.runs _ _)

pub values-returns-in_err-value-clause-runs : goal.values-returns-in_err-value-clause-runs
values-returns-in_err-value-clause-runs g t c =
    let c0 = context_of c.args.focus c.args.context.now in
    let left = next_turn (λ es. values_of (exprs (map expr_of es)) c0 (values_in c.loop-argument.done)) c.args.arguments.now
    c.loop-argument.argument-index c.argument-item.result (omega arith) c.loop-argument.invariant.same in
    let here = rw (← c.argument-item.is) at left in
    exits _ c.from_residual.ensures.1 (runs_from here (runs_stop _ c.in_err-value.ensures.runs))

pub values-returns-in_err-push-clause-runs : goal.values-returns-in_err-push-clause-runs
values-returns-in_err-push-clause-runs g t c =
    let c0 = context_of c.args.focus c.args.context.now in
    let left = next_turn (λ es. values_of (exprs (map expr_of es)) c0 (values_in c.loop-argument.done)) c.args.arguments.now
    c.loop-argument.argument-index c.argument-item.result (omega arith) c.loop-argument.invariant.same in
    let here = rw (← c.argument-item.is) at left in
    let after = goes_on (λ v. values_of (exprs (map expr_of (drop (c.loop-argument.argument-index + 1) c.args.arguments.now))) c0 (values_in
    c.loop-argument.done ++ v ∷ [])) here c.in_ok-value.ensures.runs in
    exits _ c.from_residual-in_err-push.ensures.1 (runs_from after (runs_memory refl refl))

pub values-loop-argument-preserved : goal.values-loop-argument-preserved
values-loop-argument-preserved g t c =
    let c0 = context_of c.args.focus c.args.context.now in
    let left = next_turn (λ es. values_of (exprs (map expr_of es)) c0 (values_in c.loop-argument.done)) c.args.arguments.now
    c.loop-argument.argument-index c.argument-item.result (omega arith) c.loop-argument.invariant.same in
    let here = rw (← c.argument-item.is) at left in
    let after = goes_on (λ v. values_of (exprs (map expr_of (drop (c.loop-argument.argument-index + 1) c.args.arguments.now))) c0 (values_in
    c.loop-argument.done ++ v ∷ [])) here c.in_ok-value.ensures.runs in
    record { same = rw (c.in_ok-push.ensures.items, map-append) after; name = c.eval.ensures.name ∙ c.loop-argument.invariant.name }

pub chained-returns-in_err-value-clause-runs : goal.chained-returns-in_err-value-clause-runs
chained-returns-in_err-value-clause-runs g t c =
    let c0 = context_of c.args.focus c.args.context.now in
    let left = next_turn (λ ls. chained (links (map link_of ls)) c0 (value_of c.loop-link.value)) c.args.further.now
    c.loop-link.link-index c.link-item.result (omega arith) c.loop-link.invariant.same in
    let here = rw (← c.link-item.is) at left in
    exits _ c.from_residual.ensures.1 (runs_from here (runs_stop _ c.in_err-value.ensures.runs))

pub chained-loop-link-preserved : goal.chained-loop-link-preserved
chained-loop-link-preserved g t c =
    let c0 = context_of c.args.focus c.args.context.now in
    let left = next_turn (λ ls. chained (links (map link_of ls)) c0 (value_of c.loop-link.value)) c.args.further.now
    c.loop-link.link-index c.link-item.result (omega arith) c.loop-link.invariant.same in
    let here = rw (← c.link-item.is) at left in
    record {
      same = goes_on (λ w. chained (links (map link_of (drop (c.loop-link.link-index + 1)
          c.args.further.now))) c0 w) here c.in_ok-value.ensures.runs;
      name = c.linked.ensures.name ∙ c.loop-link.invariant.name;
    }

pub linked-returns-in_err-right-clause-runs : goal.linked-returns-in_err-right-clause-runs
linked-returns-in_err-right-clause-runs g t c =
    rw (view-Link c.args.link.now, sym c.is_decided.ensures ∙ c.if-is_decided.false) (exits _ c.from_residual.ensures.1
    (runs_stop _ c.in_err-right.ensures.runs))

pub linked-returns-clause-runs : goal.linked-returns-clause-runs
linked-returns-clause-runs g t c =
    rw (view-Link c.args.link.now, sym c.is_decided.ensures ∙ c.if-is_decided.false)
    (runs_then _ c.in_ok-right.ensures.runs (c.combine.ensures.runs _ _))

pub kept-returns-in_err-value-clause-runs : goal.kept-returns-in_err-value-clause-runs
kept-returns-in_err-value-clause-runs g t c f =
    exits _ c.from_residual.ensures.1 (runs_from (next_turn (kept (meaning (expr_of c.args.predicate.now)) (context_of f c.args.context.now) (length
    c.args.nodes.now) (c.loop-i.i + 1) c.loop-i.done.items) c.args.nodes.now c.loop-i.i _ (omega arith) (c.loop-i.invariant.same f))
    (runs_stop _ c.in_err-value.ensures.runs))

pub kept-returns-in_err-keep-clause-runs : goal.kept-returns-in_err-keep-clause-runs
kept-returns-in_err-keep-clause-runs g t c f =
    exits _ c.from_residual-in_err-keep.ensures.1 (runs_from (next_turn (kept (meaning (expr_of c.args.predicate.now)) (context_of f
    c.args.context.now) (length c.args.nodes.now) (c.loop-i.i + 1) c.loop-i.done.items) c.args.nodes.now c.loop-i.i _ (omega arith)
    (c.loop-i.invariant.same f)) (runs_then _ c.in_ok-value.ensures.runs (runs_memory refl refl)))

pub kept-loop-i-preserved : goal.kept-loop-i-preserved
kept-loop-i-preserved g t c =
    record {
      same = λ f. rw c.in_ok-keep.ensures (goes_on _ (next_turn (kept (meaning (expr_of c.args.predicate.now)) (context_of f
          c.args.context.now) (length c.args.nodes.now) (c.loop-i.i + 1) c.loop-i.done.items) c.args.nodes.now c.loop-i.i _ (omega arith)
          (c.loop-i.invariant.same f)) c.in_ok-value.ensures.runs);
      name = c.eval.ensures.name ∙ c.loop-i.invariant.name;
    }

pub kept_by-returns-in_err-rest-clause-runs : goal.kept_by-returns-in_err-rest-clause-runs
kept_by-returns-in_err-rest-clause-runs g t c f =
    exits _ c.from_residual.ensures.1 (runs_from (rw (← c.predicate-item.is) at (next_turn (λ ps. kept_by (exprs (map expr_of ps)) (context_of f
    c.args.context.now) c.loop-predicate.rest.items) c.args.predicates.now c.loop-predicate.predicate-index c.predicate-item.result (omega arith)
    (c.loop-predicate.invariant.same f))) (runs_stop _ (rw c.as_slice.ensures.value at (c.in_err-rest.ensures.runs f))))

pub kept_by-loop-predicate-preserved : goal.kept_by-loop-predicate-preserved
kept_by-loop-predicate-preserved g t c =
    record {
      same = λ f. goes_on _ (rw (← c.predicate-item.is) at (next_turn (λ ps. kept_by (exprs (map expr_of ps)) (context_of f c.args.context.now)
          c.loop-predicate.rest.items) c.args.predicates.now c.loop-predicate.predicate-index c.predicate-item.result (omega arith)
          (c.loop-predicate.invariant.same f))) (rw c.as_slice.ensures.value at (c.in_ok-rest.ensures.runs f));
      name = c.kept.ensures.name ∙
          c.loop-predicate.invariant.name;
    }

pub along-returns-in_err-found-clause-runs : goal.along-returns-in_err-found-clause-runs
along-returns-in_err-found-clause-runs g t c f =
    exits _ c.from_residual.ensures.1 (runs_from (rw (← c.step-item.is) at (next_turn (λ ss. along (steps (map step_of ss)) (context_of f
    c.args.context.now) c.loop-step.at.items) c.args.route.now c.loop-step.step-index c.step-item.result (omega arith)
    (c.loop-step.invariant.same f))) (runs_stop _ (rw c.as_slice.ensures.value at (c.in_err-found.ensures.runs f))))

pub along-returns-in_err-at-clause-runs : goal.along-returns-in_err-at-clause-runs
along-returns-in_err-at-clause-runs g t c f =
    exits _ c.from_residual-in_err-at.ensures.1 (runs_from (rw (← c.step-item.is) at (next_turn (λ ss. along (steps (map step_of ss)) (context_of f
    c.args.context.now) c.loop-step.at.items) c.args.route.now c.loop-step.step-index c.step-item.result (omega arith)
    (c.loop-step.invariant.same f))) (runs_then _ (rw c.as_slice.ensures.value at (c.in_ok-found.ensures.runs f)) (runs_stop _
    (rw (c.as_slice-in-loop-step.ensures.value, axis-of c.step-item.result) at (c.in_err-at.ensures.runs (at_hand (supplies_of
    c.args.supplies.now) c.args.context.now.depth) c.args.context.now.depth)))))

pub along-loop-step-preserved : goal.along-loop-step-preserved
along-loop-step-preserved g t c =
    record {
      same = λ f. goes_on _ (goes_on _ (rw (← c.step-item.is) at (next_turn (λ ss. along (steps (map step_of ss)) (context_of f
          c.args.context.now) c.loop-step.at.items) c.args.route.now c.loop-step.step-index c.step-item.result (omega arith)
          (c.loop-step.invariant.same f))) (rw c.as_slice.ensures.value at (c.in_ok-found.ensures.runs f)))
          (rw (c.as_slice-in-loop-step.ensures.value, axis-of c.step-item.result) at (c.in_ok-at.ensures.runs (at_hand (supplies_of
          c.args.supplies.now) c.args.context.now.depth) c.args.context.now.depth));
      name = c.arrange.ensures.name ∙ c.stepped.ensures.name ∙
          c.loop-step.invariant.name;
    }

pub stepped-returns-in_err-test-clause-runs : goal.stepped-returns-in_err-test-clause-runs
stepped-returns-in_err-test-clause-runs g t c f =
    exits _ c.from_residual.ensures.1 (runs_from (c.loop-node.invariant.same f) (runs_memory refl refl))

pub stepped-returns-in_err-found-clause-runs : goal.stepped-returns-in_err-found-clause-runs
stepped-returns-in_err-found-clause-runs g t c f =
    exits _ c.from_residual-in_err-found.ensures.1 (runs_from (step_turn (kept_by (step_of c.args.step.now).predicates (context_of f
    c.args.context.now)) (step_of c.args.step.now).axis (step_of c.args.step.now).test c.loop-node.done.items (drop (c.loop-node.node-index + 1)
    c.args.nodes.now) _ (next_turn (stepped (kept_by (step_of c.args.step.now).predicates (context_of f c.args.context.now)) (step_of
    c.args.step.now).axis (step_of c.args.step.now).test c.loop-node.done.items) c.args.nodes.now c.loop-node.node-index _ (omega arith)
    (c.loop-node.invariant.same f))) (runs_stop _ (rw (
      c.in_ok-test.ensures,
      axis-of c.args.step.now,
      test-of
          c.args.step.now,
    ) at (c.in_err-found.ensures.runs (at_hand (supplies_of c.args.supplies.now) c.args.context.now.depth)
    c.args.context.now.depth))))

pub stepped-returns-in_err-more-clause-runs : goal.stepped-returns-in_err-more-clause-runs
stepped-returns-in_err-more-clause-runs g t c f =
    exits _ c.from_residual-in_err-more.ensures.1 (runs_from (step_turn (kept_by (step_of c.args.step.now).predicates (context_of f
    c.args.context.now)) (step_of c.args.step.now).axis (step_of c.args.step.now).test c.loop-node.done.items (drop (c.loop-node.node-index + 1)
    c.args.nodes.now) _ (next_turn (stepped (kept_by (step_of c.args.step.now).predicates (context_of f c.args.context.now)) (step_of
    c.args.step.now).axis (step_of c.args.step.now).test c.loop-node.done.items) c.args.nodes.now c.loop-node.node-index _ (omega arith)
    (c.loop-node.invariant.same f))) (runs_then _ (rw (
      c.in_ok-test.ensures,
      axis-of c.args.step.now,
      test-of
          c.args.step.now,
    ) at (c.in_ok-found.ensures.runs (at_hand (supplies_of c.args.supplies.now) c.args.context.now.depth)
    c.args.context.now.depth)) (runs_stop _ (rw (
      c.as_slice.ensures.value,
      predicates-of
          c.args.step.now,
    ) at (c.in_err-more.ensures.runs f)))))

pub stepped-returns-in_err-add-clause-runs : goal.stepped-returns-in_err-add-clause-runs
stepped-returns-in_err-add-clause-runs g t c f =
    exits _ c.from_residual-in_err-add.ensures.1 (runs_from (step_turn (kept_by (step_of c.args.step.now).predicates (context_of f
    c.args.context.now)) (step_of c.args.step.now).axis (step_of c.args.step.now).test c.loop-node.done.items (drop (c.loop-node.node-index + 1)
    c.args.nodes.now) _ (next_turn (stepped (kept_by (step_of c.args.step.now).predicates (context_of f c.args.context.now)) (step_of
    c.args.step.now).axis (step_of c.args.step.now).test c.loop-node.done.items) c.args.nodes.now c.loop-node.node-index _ (omega arith)
    (c.loop-node.invariant.same f))) (runs_then _ (rw (
      c.in_ok-test.ensures,
      axis-of c.args.step.now,
      test-of
          c.args.step.now,
    ) at (c.in_ok-found.ensures.runs (at_hand (supplies_of c.args.supplies.now) c.args.context.now.depth)
    c.args.context.now.depth)) (runs_then _ (rw (
      c.as_slice.ensures.value,
      predicates-of
          c.args.step.now,
    ) at (c.in_ok-more.ensures.runs f)) (runs_memory refl refl))))

pub stepped-loop-node-preserved : goal.stepped-loop-node-preserved
stepped-loop-node-preserved g t c =
    record {
      same = λ f. rw (c.in_ok-add.ensures) (goes_on _ (goes_on _ (step_turn
          (kept_by (step_of c.args.step.now).predicates (context_of f c.args.context.now)) (step_of c.args.step.now).axis (step_of c.args.step.now).test
          c.loop-node.done.items (drop (c.loop-node.node-index + 1) c.args.nodes.now) _ (next_turn (stepped (kept_by (step_of
          c.args.step.now).predicates (context_of f c.args.context.now)) (step_of c.args.step.now).axis (step_of c.args.step.now).test
          c.loop-node.done.items) c.args.nodes.now c.loop-node.node-index _ (omega arith) (c.loop-node.invariant.same f)))
          (rw (c.in_ok-test.ensures, axis-of c.args.step.now, test-of c.args.step.now) at (c.in_ok-found.ensures.runs (at_hand (supplies_of
          c.args.supplies.now) c.args.context.now.depth) c.args.context.now.depth))) (rw (
            c.as_slice.ensures.value,
            predicates-of
                c.args.step.now,
          ) at (c.in_ok-more.ensures.runs f)));
      name = c.kept_by.ensures.name ∙ c.ask_nodes.ensures.name ∙
          c.loop-node.invariant.name;
    }
