use Rattle.std.proofs.Common.{◌∙◌, sym, refl, arith}
use Rattle.std.proofs.lemmas.Result.{err_from_is_err_and}
use Rattle.spec_meaning.specs.Compare.{searched}
use Rattle.xt_questions.proofs.Steps.{runs_then, runs_stop, runs_gives, runs_memory, runs_from, goes_on, exits}
use Rattle.xp_values.proofs.Comparing.{next_operand}
use Rattle.xp_values.proofs.comparison.searched.Goals as goal

pub returns-in_err-key-clause-name : goal.returns-in_err-key-clause-name
returns-in_err-key-clause-name g c = c.in_err-key.ensures.name ∙ c.loop-right.invariant.name

pub returns-in_err-key-clause-runs : goal.returns-in_err-key-clause-runs
returns-in_err-key-clause-runs g c supply depth =
    let turn = next_operand (searched g.C.Comparand.read (g.C.Comparand.test c.args.operator c.args.first.now) c.loop-right.keys.items)
    c.args.rights.now c.loop-right.right-index c.right-item.result (omega arith) c.right-item.is (c.loop-right.invariant.runs supply depth) in
    exits _ c.from_residual.ensures.1 (runs_from turn (runs_stop _ (c.in_err-key.ensures.runs supply depth)))

pub returns-then-passes-clause-runs : goal.returns-then-passes-clause-runs
returns-then-passes-clause-runs g c supply depth =
    let turn = next_operand (searched g.C.Comparand.read (g.C.Comparand.test c.args.operator c.args.first.now) c.loop-right.keys.items)
    c.args.rights.now c.loop-right.right-index c.right-item.result (omega arith) c.right-item.is (c.loop-right.invariant.runs supply depth) in
    runs_from turn (runs_then _ (c.in_ok-key.ensures.runs supply depth) (rw (sym c.passes.ensures ∙ c.if-passes.true) (runs_gives refl)))

pub returns-in_err-push-clause-runs : goal.returns-in_err-push-clause-runs
returns-in_err-push-clause-runs g c supply depth =
    let turn = next_operand (searched g.C.Comparand.read (g.C.Comparand.test c.args.operator c.args.first.now) c.loop-right.keys.items)
    c.args.rights.now c.loop-right.right-index c.right-item.result (omega arith) c.right-item.is (c.loop-right.invariant.runs supply depth) in
    let memory = err_from_is_err_and c.from_residual-in_err-push.result c.from_residual-in_err-push.ensures.1 in
    rw memory.1 (runs_from turn (runs_then _ (c.in_ok-key.ensures.runs supply depth) (runs_memory memory.2 refl)))

pub loop-right-preserved : goal.loop-right-preserved
loop-right-preserved g c = record {
  runs = λ supply depth.
      let turn = next_operand (searched g.C.Comparand.read (g.C.Comparand.test c.args.operator c.args.first.now) c.loop-right.keys.items)
      c.args.rights.now c.loop-right.right-index c.right-item.result (omega arith) c.right-item.is (c.loop-right.invariant.runs supply depth) in
      let on = goes_on _ turn (c.in_ok-key.ensures.runs supply depth) in
      rw c.in_ok-push.ensures.items (rw (sym c.passes.ensures ∙ c.if-passes.false) at on);
  name = c.in_ok-key.ensures.name ∙ c.loop-right.invariant.name;
}
