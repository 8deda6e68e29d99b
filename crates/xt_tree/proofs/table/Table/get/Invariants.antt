use Rattle.std.proofs.Common.{◌≡◌}
use Rattle.xt_tree.specs.Lookup.{lookup, link_lookup}
use Rattle.xt_tree.proofs.table.Table.get.Given as goal

abbrev pub invariant-loop-link : goal.invariant-loop-link
invariant-loop-link l = link_lookup l.link l.left ≡ lookup l.self l.number
