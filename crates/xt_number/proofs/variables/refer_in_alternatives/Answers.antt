use Rattle.std.proofs.Common.{◌+◌, drop, map, ◌∙◌, arith}
use Rattle.std.specs.List.{flat_map}
use Rattle.spec_transform.specs.Numbering.{names_in_alternative, referred_to}
use Rattle.xt_syntax.specs.PartView.{alternative_of}
use Rattle.xt_questions.specs.View.{context_of}
use Rattle.xt_questions.proofs.Steps.{runs_stop, runs_from, goes_on, next_turn, exits}
use Rattle.xt_match.proofs.Together.{continues_as}
use Rattle.xt_number.proofs.Referring.{turn_of_alternatives}
use Rattle.xt_number.proofs.variables.refer_in_alternatives.Goals as goal

pub returns-in_err-refer_in_alternative-clause-runs : goal.returns-in_err-refer_in_alternative-clause-runs
returns-in_err-refer_in_alternative-clause-runs g c =
    let c0 = context_of c.args.focus c.args.context.now in
    let next = next_turn (λ rest. referred_to (flat_map names_in_alternative (map alternative_of rest)) c0) c.args.alternatives.now c.loop-alternative.alternative-index c.alternative-item.result (omega arith) c.loop-alternative.invariant.same in
    let turn = continues_as (turn_of_alternatives c0 c.alternative-item.result (drop (c.loop-alternative.alternative-index + 1) c.args.alternatives.now)) (rw (← c.alternative-item.is) at next) in
    exits _ c.from_residual.ensures.1 (runs_from turn (runs_stop _ (rw c.as_slice-steps.ensures.value at c.in_err-refer_in_alternative.ensures.runs)))

pub loop-alternative-preserved : goal.loop-alternative-preserved
loop-alternative-preserved g c =
    let c0 = context_of c.args.focus c.args.context.now in
    let next = next_turn (λ rest. referred_to (flat_map names_in_alternative (map alternative_of rest)) c0) c.args.alternatives.now c.loop-alternative.alternative-index c.alternative-item.result (omega arith) c.loop-alternative.invariant.same in
    let turn = continues_as (turn_of_alternatives c0 c.alternative-item.result (drop (c.loop-alternative.alternative-index + 1) c.args.alternatives.now)) (rw (← c.alternative-item.is) at next) in
    record { same = goes_on _ turn (rw c.as_slice-steps.ensures.value at c.in_ok-refer_in_alternative.ensures.runs); name = c.refer_in_alternative.ensures.name ∙ c.loop-alternative.invariant.name }
