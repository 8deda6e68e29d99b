use Rattle.std.proofs.Common.{◌+◌, drop, ◌∙◌, arith}
use Rattle.spec_transform.specs.Numbering.{referred_to}
use Rattle.xt_questions.specs.View.{context_of}
use Rattle.xt_questions.proofs.Steps.{runs_stop, runs_from, goes_on, next_turn, exits}
use Rattle.xt_match.proofs.Together.{continues_as}
use Rattle.xt_number.proofs.Referring.{names_in_pattern_steps, turn_of_pattern_steps}
use Rattle.xt_number.proofs.variables.refer_in_alternative.Goals as goal

pub returns-in_err-refer_in_all-clause-runs : goal.returns-in_err-refer_in_all-clause-runs
returns-in_err-refer_in_all-clause-runs g c =
    let c0 = context_of c.args.focus c.args.context.now in
    let next = next_turn (λ ss. referred_to (names_in_pattern_steps ss) c0) c.args.steps.now c.loop-step.step-index c.step-item.result (omega arith) c.loop-step.invariant.same in
    let turn = continues_as (turn_of_pattern_steps c0 c.step-item.result (drop (c.loop-step.step-index + 1) c.args.steps.now)) (rw (← c.step-item.is) at next) in
    exits _ c.from_residual.ensures.1 (runs_from turn (runs_stop _ (rw c.as_slice-predicates.ensures.value at c.in_err-refer_in_all.ensures.runs)))

pub loop-step-preserved : goal.loop-step-preserved
loop-step-preserved g c =
    let c0 = context_of c.args.focus c.args.context.now in
    let next = next_turn (λ ss. referred_to (names_in_pattern_steps ss) c0) c.args.steps.now c.loop-step.step-index c.step-item.result (omega arith) c.loop-step.invariant.same in
    let turn = continues_as (turn_of_pattern_steps c0 c.step-item.result (drop (c.loop-step.step-index + 1) c.args.steps.now)) (rw (← c.step-item.is) at next) in
    record { same = goes_on _ turn (rw c.as_slice-predicates.ensures.value at c.in_ok-refer_in_all.ensures.runs); name = c.refer_in_all.ensures.name ∙ c.loop-step.invariant.name }
