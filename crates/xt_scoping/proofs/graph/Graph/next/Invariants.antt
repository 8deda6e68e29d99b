use Rattle.std.proofs.Common.{◌≡◌, ◌++◌, drop}
use Rattle.std.specs.List.{flat_map}
use Rattle.xt_scoping.specs.Distinct.{with_names}
use Rattle.xt_scoping.specs.Reach.{names_at, used_in}
use Rattle.xt_scoping.proofs.graph.Graph.next.Given as goal

abbrev pub invariant-loop-set : goal.invariant-loop-set
invariant-loop-set l = record {
  seen : with_names l.seen (flat_map (used_in l.self) (names_at (drop l.set-index l.sets))) ≡ with_names l.fn.seen (flat_map (used_in l.self) (names_at l.sets));
  new : l.seen ≡ l.fn.seen ++ names_at l.new.items;
}
