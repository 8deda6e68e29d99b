use Rattle.std.proofs.Common.{◌∙◌, sym, refl, arith}
use Rattle.spec_meaning.specs.Compare.{any_left}
use Rattle.xt_questions.proofs.Steps.{runs_then, runs_stop, runs_gives, runs_from, goes_on, exits}
use Rattle.xp_values.proofs.Comparing.{next_operand}
use Rattle.xp_values.proofs.comparison.any_left.Goals as goal

pub returns-in_err-key-clause-runs : goal.returns-in_err-key-clause-runs
returns-in_err-key-clause-runs g c supply depth =
    let turn = next_operand (any_left g.C.Comparand.read (g.C.Comparand.test c.args.operator) c.args.keys.now)
    c.args.lefts.now c.loop-left.left-index c.left-item.result (omega arith) c.left-item.is (c.loop-left.invariant.runs supply depth) in
    exits _ c.from_residual.ensures.1 (runs_from turn (runs_stop _ (c.in_err-key.ensures.runs supply depth)))

pub returns-then-passes_any-clause-runs : goal.returns-then-passes_any-clause-runs
returns-then-passes_any-clause-runs g c supply depth =
    let turn = next_operand (any_left g.C.Comparand.read (g.C.Comparand.test c.args.operator) c.args.keys.now)
    c.args.lefts.now c.loop-left.left-index c.left-item.result (omega arith) c.left-item.is (c.loop-left.invariant.runs supply depth) in
    runs_from turn (runs_then _ (c.in_ok-key.ensures.runs supply depth) (rw (sym c.passes_any.ensures ∙ c.if-passes_any.true) (runs_gives refl)))

pub loop-left-preserved : goal.loop-left-preserved
loop-left-preserved g c = record {
  runs = λ supply depth.
      let turn = next_operand (any_left g.C.Comparand.read (g.C.Comparand.test c.args.operator) c.args.keys.now)
      c.args.lefts.now c.loop-left.left-index c.left-item.result (omega arith) c.left-item.is (c.loop-left.invariant.runs supply depth) in
      let on = goes_on _ turn (c.in_ok-key.ensures.runs supply depth) in
      rw (sym c.passes_any.ensures ∙ c.if-passes_any.false) at on;
  name = c.in_ok-key.ensures.name ∙ c.loop-left.invariant.name;
}
