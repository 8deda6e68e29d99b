use Rattle.std.proofs.Common.{refl, ap, ◌∙◌, arith, map}
use Rattle.spec_transform.specs.Expansion.{joined}
use Rattle.xt_syntax.specs.PartView.{avt_part_of}
use Rattle.xt_questions.specs.View.{context_of}
use Rattle.xt_questions.proofs.Steps.{runs_then, runs_stop, runs_gives, runs_memory, runs_from, goes_on, last_turn, exits}
use Rattle.xt_avt.proofs.Joining.{Behind, continues_start, ends, next_part, runs_as}
use Rattle.xt_avt.proofs.expansion.expand.Goals as goal

pub loop-part-init : goal.loop-part-init
loop-part-init g c = record {
  same = continues_start c.new-done.result _ _ (context_of c.args.focus c.args.context.now) c.new-done.ensures
      (ap (map avt_part_of) c.as_slice-part-items.ensures.value);
  name = refl;
}

pub returns-in_err-text-clause-runs : goal.returns-in_err-text-clause-runs
returns-in_err-text-clause-runs g c =
    let turn = next_part c.loop-part.done (context_of c.args.focus c.args.context.now) c.as_slice-part-items.result.now
    c.loop-part.part-index c.part-item.result (omega arith) c.part-item.is c.loop-part.invariant.same in
    exits _ c.from_residual.ensures.1 (runs_from turn (runs_stop _ c.in_err-text.ensures.runs))

pub returns-in_err-push_str-clause-runs : goal.returns-in_err-push_str-clause-runs
returns-in_err-push_str-clause-runs g c =
    let turn = next_part c.loop-part.done (context_of c.args.focus c.args.context.now) c.as_slice-part-items.result.now
    c.loop-part.part-index c.part-item.result (omega arith) c.part-item.is c.loop-part.invariant.same in
    exits _ c.from_residual-in_err-push_str.ensures.1 (runs_from turn (runs_then _ c.in_ok-text.ensures.runs (runs_memory refl refl)))

pub loop-part-preserved : goal.loop-part-preserved
loop-part-preserved g c =
    let turn = next_part c.loop-part.done (context_of c.args.focus c.args.context.now) c.as_slice-part-items.result.now
    c.loop-part.part-index c.part-item.result (omega arith) c.part-item.is c.loop-part.invariant.same in
    record {
      same = rw (c.in_ok-push_str.ensures.ok, c.as_str.ensures.characters) (goes_on _ turn c.in_ok-text.ensures.runs);
      name = c.text_of.ensures.name ∙ c.loop-part.invariant.name;
    }

pub returns-clause-runs : goal.returns-clause-runs
returns-clause-runs g c =
    let c0 = context_of c.args.focus c.args.context.now in
    let left = last_turn (λ ps. Behind c.loop-part.done (joined (map avt_part_of ps) c0)) c.as_slice-part-items.result.now
    c.loop-part.part-index (omega arith) c.loop-part.invariant.same in
    runs_from left (runs_as (ends c.loop-part.done c0) (runs_gives refl))
