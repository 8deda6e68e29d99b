use Rattle.std.proofs.Common.{◌≡◌, ◌++◌, map, drop}
use Rattle.xt_tree.specs.Indexed.{declarations_in}
use Rattle.xt_tree.specs.View.{written_of}
use Rattle.xt_tree.proofs.declarations.declarations_among.Given as goal

abbrev pub invariant-loop-index : goal.invariant-loop-index
invariant-loop-index l =
    l.list.items ++ declarations_in l.index (map written_of (drop l.index l.attributes)) ≡ declarations_in 0 (map written_of l.attributes)
