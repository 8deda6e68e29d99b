use Rattle.std.proofs.Common.{arith, refl}
use Rattle.xt_scoping.specs.Reach.{all_in}
use Rattle.xt_scoping.proofs.Seeing.{next_list}
use Rattle.xt_scoping.proofs.graph.see_lists.Goals as goal

pub loop-list-preserved : goal.loop-list-preserved
loop-list-preserved c = record {
  seen = next_list all_in (λ l. l.now) (λ x xs. refl) c.args.lists.now c.loop-list.list-index c.list-item.result _ _ _ (omega arith) c.list-item.is
      c.loop-list.invariant.seen c.in_ok-see.ensures.seen;
  new = λ before e. c.in_ok-see.ensures.new before (c.loop-list.invariant.new before e);
}
