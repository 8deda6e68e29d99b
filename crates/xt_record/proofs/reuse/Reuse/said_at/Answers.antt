use Rattle.std.proofs.Common.{Option, subst}
use Rattle.std.specs.Prelude.{IfSome}
use Rattle.xt_engine.specs.View.{call_of}
use Rattle.xt_record.specs.Grown.{values_of, IsSaidAt, IsTakenOver}
use Rattle.xt_record.specs.declared.pool.Pool.{Pool}
use Rattle.xt_record.specs.declared.reuse.Said.{Said}
use Rattle.xt_record.proofs.Saying.{taken_hold, taken_over}
use Rattle.xt_record.proofs.reuse.Reuse.said_at.Goals as goal

pub returns-clause-sure : goal.returns-clause-sure
returns-clause-sure g c =
    let truth = (g.W.World.state c.args.world.now).truth in
    let last = c.args.self.now.last.now in
    let mid = c.tree_for.new.self in
    let turn = c.args.turn in
    let levels = c.args.levels in
    let call = call_of c.args.call.now in
    let vs = values_of last.records.items in
    let ts = last.trees.items in
    let x = c.in-Some.said in
    let k = c.in_ok-take_over.ensures in
    let sure = c.in_ok-said.ensures.sure in
    let SaidOf : Option Said → Type 0 = λ o. IfSome o (λ y. IsSaidAt truth vs ts turn call levels y.whole.value y.record.value) in
    let said = subst SaidOf c.in-Some.is c.in_ok-said.ensures.said in
    record {
      kept = sure.kept;
      judged = sure.judged;
      spared = sure.spared;
      counted = sure.counted;
      next = taken_hold truth vs ts turn levels call x.whole.value x.record.value mid.next.records.items c.take_over.new.self.records.items said
          k.records sure.next;
      grown = k.trees c.requires.sure.trees sure.grown;
      trees = sure.trees;
      ordered = sure.ordered;
    }

pub returns-clause-said : goal.returns-clause-said
returns-clause-said g c =
    let truth = (g.W.World.state c.args.world.now).truth in
    let last = c.args.self.now.last.now in
    let mid = c.tree_for.new.self in
    let turn = c.args.turn in
    let levels = c.args.levels in
    let call = call_of c.args.call.now in
    let vs = values_of last.records.items in
    let ts = last.trees.items in
    let x = c.in-Some.said in
    let SaidOf : Option Said → Type 0 = λ o. IfSome o (λ y. IsSaidAt truth vs ts turn call levels y.whole.value y.record.value) in
    let said = subst SaidOf c.in-Some.is c.in_ok-said.ensures.said in
    let From : Pool → Type 0 = λ n. IsTakenOver truth vs (values_of n.records.items) (values_of c.take_over.new.self.records.items) call levels
    x.whole.value x.record.value in
    subst From c.tree_for.ensures.judges.next (taken_over truth vs ts turn levels call x.whole.value x.record.value mid.next.records.items
    c.take_over.new.self.records.items said c.in_ok-take_over.ensures.records)
