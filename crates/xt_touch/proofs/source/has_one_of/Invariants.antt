use Rattle.std.proofs.Common.{◌≡◌, drop}
use Rattle.std.specs.List.{list_any}
use Rattle.xt_edit.specs.Telling.{numbers_in}
use Rattle.xt_touch.specs.Named.{is_within}
use Rattle.xt_touch.proofs.source.has_one_of.Given as goal

abbrev pub invariant-loop-node : goal.invariant-loop-node
invariant-loop-node l = list_any (is_within l.bounds) (numbers_in (drop l.node-index l.nodes)) ≡ list_any (is_within l.bounds) (numbers_in l.nodes)
