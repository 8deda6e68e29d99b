use Rattle.std.proofs.Common.{◌≡◌, drop}
use Rattle.xt_scoping.specs.Distinct.{AreAdded, with_names}
use Rattle.xt_scoping.specs.Reach.{all_in, names_at}
use Rattle.xt_scoping.proofs.graph.see_lists.Given as goal

abbrev pub invariant-loop-list : goal.invariant-loop-list
invariant-loop-list l = record {
  seen : with_names l.seen (all_in (drop l.list-index l.lists)) ≡ with_names l.fn.seen (all_in l.lists);
  new : AreAdded l.fn.seen (names_at l.fn.new.items) l.seen (names_at l.new.items);
}
