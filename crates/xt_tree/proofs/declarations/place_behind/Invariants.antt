use Rattle.std.proofs.Common.{◌≡◌, drop}
use Rattle.xt_tree.specs.Indexed.{skipped}
use Rattle.xt_tree.proofs.declarations.place_behind.Given as goal

abbrev pub invariant-loop-declaration : goal.invariant-loop-declaration
invariant-loop-declaration l = skipped (drop l.declaration-index l.declarations) l.place ≡ skipped l.declarations l.before
