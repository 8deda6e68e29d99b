use Rattle.std.proofs.Common.{arith, refl}
use Rattle.std.specs.List.{flat_map}
use Rattle.xt_scoping.specs.Reach.{names_at, used_in}
use Rattle.xt_scoping.proofs.Seeing.{next_list}
use Rattle.xt_scoping.proofs.graph.Graph.next.Goals as goal

pub loop-set-preserved : goal.loop-set-preserved
loop-set-preserved c = record {
  seen = next_list (λ sets. flat_map (used_in c.args.self.now) (names_at sets)) (λ s. used_in c.args.self.now s.now) (λ x xs. refl)
      c.args.sets.now c.loop-set.set-index c.set-item.result _ _ _ (omega arith) c.set-item.is
      c.loop-set.invariant.seen c.in_ok-see_used.ensures.seen;
  new = c.in_ok-see_used.ensures.new c.args.seen.now c.loop-set.invariant.new;
}
