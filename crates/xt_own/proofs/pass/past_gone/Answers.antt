use Rattle.std.proofs.Common.{List, ℕ, arith, subst}
use Rattle.xt_own.specs.Keys.{Covers}
use Rattle.xt_own.specs.declared.own_node.OwnNode.{OwnNode}
use Rattle.xt_own.proofs.SideBySide.{all_skipped, next_skipped}
use Rattle.xt_own.proofs.pass.past_gone.Goals as goal

pub loop-next-preserved : goal.loop-next-preserved
loop-next-preserved c = record {
  skips =
      let after = c.add_values.new.but.items in
      let T : List (List ℕ) → Type 0 = λ texts. Covers texts after in
      let N : OwnNode → Type 0 = λ n. Covers n.texts.items after in
      let values = subst N c.deref-in-loop-next.ensures (subst T c.as_slice.ensures.value c.in_ok-add_values.ensures.values) in
      next_skipped _ _ after _ c.args.before.now c.loop-next.next c.index-before-next.result (omega arith) c.index-before-next.is
      c.in_ok-add_values.ensures.before values c.loop-next.invariant.skips;
}

pub returns-clause-skips : goal.returns-clause-skips
returns-clause-skips c = all_skipped _ _ _ c.args.before.now c.loop-next.next _ (omega arith) (omega arith) c.loop-next.invariant.skips
