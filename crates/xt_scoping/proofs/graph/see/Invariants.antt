use Rattle.std.proofs.Common.{◌≡◌, drop}
use Rattle.xt_scoping.specs.Distinct.{AreAdded, with_names}
use Rattle.xt_scoping.specs.Reach.{names_at}
use Rattle.xt_scoping.proofs.graph.see.Given as goal

abbrev pub invariant-loop-name : goal.invariant-loop-name
invariant-loop-name l = record {
  seen : with_names l.seen (drop l.name-index l.names) ≡ with_names l.fn.seen l.names;
  new : AreAdded l.fn.seen (names_at l.fn.new.items) l.seen (names_at l.new.items);
}
