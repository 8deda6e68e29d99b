use Rattle.std.proofs.Common.{refl, sym, map, ◌∙◌, arith}
use Rattle.spec_expression.specs.Syntax.{exprs, links, steps}
use Rattle.spec_transform.specs.Numbering.{names_in_all, names_in_links, names_in_steps, referred_to}
use Rattle.xt_syntax.specs.View.{expr_of, link_of, step_of}
use Rattle.xt_questions.specs.View.{context_of}
use Rattle.xt_questions.proofs.Steps.{runs_then, runs_stop, runs_gives, runs_from, goes_on, next_turn, exits}
use Rattle.xt_match.proofs.Together.{continues_as, runs_as}
use Rattle.xt_number.proofs.Referring.{both, turn_of_all, turn_of_links, turn_of_steps}
use Rattle.xt_number.proofs.Views.{view-Number, view-Literal, view-Variable, view-Call, view-Chain, view-Filter, view-Path}
use Rattle.xt_number.proofs.variables.+refer.Goals as goal

pub refer-returns-in-Number-clause-runs : goal.refer-returns-in-Number-clause-runs
refer-returns-in-Number-clause-runs g t c = rw (c.in-Number.is, view-Number) (runs_gives refl)

pub refer-returns-in-Literal-clause-runs : goal.refer-returns-in-Literal-clause-runs
refer-returns-in-Literal-clause-runs g t c = rw (c.in-Literal.is, view-Literal) (runs_gives refl)

pub refer-returns-in-Variable-clause-runs : goal.refer-returns-in-Variable-clause-runs
refer-returns-in-Variable-clause-runs g t c = rw (c.in-Variable.is, view-Variable) (rw (c.in-Variable.is, view-Variable) at c.evaluate.ensures.runs)

pub refer-returns-in-Call-clause-runs : goal.refer-returns-in-Call-clause-runs
refer-returns-in-Call-clause-runs g t c = rw (c.in-Call.is, view-Call, ← c.as_slice-list.ensures.value) c.refer_in_all.ensures.runs

pub refer-returns-in_err-refer-in-Chain-clause-runs : goal.refer-returns-in_err-refer-in-Chain-clause-runs
refer-returns-in_err-refer-in-Chain-clause-runs g t c =
    rw (c.in-Chain.is, view-Chain, ← c.deref.ensures)
    (exits _ c.from_residual.ensures.1 (runs_as (sym (both _ _ _)) (runs_stop _ c.in_err-refer-in-Chain.ensures.runs)))

pub refer-returns-in_ok-refer-in-Chain-clause-runs : goal.refer-returns-in_ok-refer-in-Chain-clause-runs
refer-returns-in_ok-refer-in-Chain-clause-runs g t c =
    rw (c.in-Chain.is, view-Chain, ← c.deref.ensures, ← c.as_slice-list-in-Chain.ensures.value)
    (runs_as (sym (both _ _ _)) (runs_then _ c.in_ok-refer-in-Chain.ensures.runs c.refer_in_links.ensures.runs))

pub refer-returns-in_err-refer-in-Filter-clause-runs : goal.refer-returns-in_err-refer-in-Filter-clause-runs
refer-returns-in_err-refer-in-Filter-clause-runs g t c =
    rw (c.in-Filter.is, view-Filter, ← c.deref-in-Filter.ensures)
    (exits _ c.from_residual-in_err-refer-in-Filter.ensures.1 (runs_as (sym (both _ _ _)) (runs_stop _ c.in_err-refer-in-Filter.ensures.runs)))

pub refer-returns-in_ok-refer-in-Filter-clause-runs : goal.refer-returns-in_ok-refer-in-Filter-clause-runs
refer-returns-in_ok-refer-in-Filter-clause-runs g t c =
    rw (c.in-Filter.is, view-Filter, ← c.deref-in-Filter.ensures, ← c.as_slice-list-in-Filter.ensures.value)
    (runs_as (sym (both _ _ _)) (runs_then _ c.in_ok-refer-in-Filter.ensures.runs c.refer_in_all-in-Filter.ensures.runs))

pub refer-returns-in_err-refer-in-Path-clause-runs : goal.refer-returns-in_err-refer-in-Path-clause-runs
refer-returns-in_err-refer-in-Path-clause-runs g t c =
    rw (c.in-Path.is, view-Path, ← c.deref-in-Path.ensures)
    (exits _ c.from_residual-in_err-refer-in-Path.ensures.1 (runs_as (sym (both _ _ _)) (runs_stop _ c.in_err-refer-in-Path.ensures.runs)))

pub refer-returns-in_ok-refer-in-Path-clause-runs : goal.refer-returns-in_ok-refer-in-Path-clause-runs
refer-returns-in_ok-refer-in-Path-clause-runs g t c =
    rw (c.in-Path.is, view-Path, ← c.deref-in-Path.ensures, ← c.as_slice-list-in-Path.ensures.value)
    (runs_as (sym (both _ _ _)) (runs_then _ c.in_ok-refer-in-Path.ensures.runs c.refer_in_steps.ensures.runs))

pub refer_in_all-returns-in_err-refer-clause-runs : goal.refer_in_all-returns-in_err-refer-clause-runs
refer_in_all-returns-in_err-refer-clause-runs g t c =
    let c0 = context_of c.args.focus c.args.context.now in
    let next = next_turn (λ es. referred_to (names_in_all (exprs (map expr_of es))) c0) c.args.list.now c.loop-expr.expr-index c.expr-item.result (omega arith) c.loop-expr.invariant.same in
    let turn = continues_as (turn_of_all c0 _ _) (rw (← c.expr-item.is) at next) in
    exits _ c.from_residual.ensures.1 (runs_from turn (runs_stop _ c.in_err-refer.ensures.runs))

pub refer_in_all-loop-expr-preserved : goal.refer_in_all-loop-expr-preserved
refer_in_all-loop-expr-preserved g t c =
    let c0 = context_of c.args.focus c.args.context.now in
    let next = next_turn (λ es. referred_to (names_in_all (exprs (map expr_of es))) c0) c.args.list.now c.loop-expr.expr-index c.expr-item.result (omega arith) c.loop-expr.invariant.same in
    let turn = continues_as (turn_of_all c0 _ _) (rw (← c.expr-item.is) at next) in
    record { same = goes_on _ turn c.in_ok-refer.ensures.runs; name = c.refer.ensures.name ∙ c.loop-expr.invariant.name }

pub refer_in_links-returns-in_err-refer-clause-runs : goal.refer_in_links-returns-in_err-refer-clause-runs
refer_in_links-returns-in_err-refer-clause-runs g t c =
    let c0 = context_of c.args.focus c.args.context.now in
    let next = next_turn (λ ls. referred_to (names_in_links (links (map link_of ls))) c0) c.args.list.now c.loop-link.link-index c.link-item.result (omega arith) c.loop-link.invariant.same in
    let turn = continues_as (turn_of_links c0 _ _) (rw (← c.link-item.is) at next) in
    exits _ c.from_residual.ensures.1 (runs_from turn (runs_stop _ c.in_err-refer.ensures.runs))

pub refer_in_links-loop-link-preserved : goal.refer_in_links-loop-link-preserved
refer_in_links-loop-link-preserved g t c =
    let c0 = context_of c.args.focus c.args.context.now in
    let next = next_turn (λ ls. referred_to (names_in_links (links (map link_of ls))) c0) c.args.list.now c.loop-link.link-index c.link-item.result (omega arith) c.loop-link.invariant.same in
    let turn = continues_as (turn_of_links c0 _ _) (rw (← c.link-item.is) at next) in
    record { same = goes_on _ turn c.in_ok-refer.ensures.runs; name = c.refer.ensures.name ∙ c.loop-link.invariant.name }

pub refer_in_steps-returns-in_err-refer_in_all-clause-runs : goal.refer_in_steps-returns-in_err-refer_in_all-clause-runs
refer_in_steps-returns-in_err-refer_in_all-clause-runs g t c =
    let c0 = context_of c.args.focus c.args.context.now in
    let next = next_turn (λ ss. referred_to (names_in_steps (steps (map step_of ss))) c0) c.args.list.now c.loop-step.step-index c.step-item.result (omega arith) c.loop-step.invariant.same in
    let turn = continues_as (turn_of_steps c0 _ _) (rw (← c.step-item.is) at next) in
    exits _ c.from_residual.ensures.1 (runs_from turn (runs_stop _ (rw c.as_slice-predicates.ensures.value at c.in_err-refer_in_all.ensures.runs)))

pub refer_in_steps-loop-step-preserved : goal.refer_in_steps-loop-step-preserved
refer_in_steps-loop-step-preserved g t c =
    let c0 = context_of c.args.focus c.args.context.now in
    let next = next_turn (λ ss. referred_to (names_in_steps (steps (map step_of ss))) c0) c.args.list.now c.loop-step.step-index c.step-item.result (omega arith) c.loop-step.invariant.same in
    let turn = continues_as (turn_of_steps c0 _ _) (rw (← c.step-item.is) at next) in
    record { same = goes_on _ turn (rw c.as_slice-predicates.ensures.value at c.in_ok-refer_in_all.ensures.runs); name = c.refer_in_all.ensures.name ∙ c.loop-step.invariant.name }
