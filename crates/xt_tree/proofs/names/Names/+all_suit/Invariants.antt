use Rattle.std.proofs.Common.{◌≡◌, drop}
use Rattle.xt_tree.specs.Kept.{kept_at}
use Rattle.xt_tree.specs.Room.{all_suit}
use Rattle.xt_tree.specs.View.{forest_of}
use Rattle.xt_tree.proofs.names.Names.+all_suit.Given as goal

abbrev pub invariant-loop-sibling : goal.invariant-loop-sibling
invariant-loop-sibling l = all_suit (kept_at l.self) (forest_of (drop l.sibling-index l.siblings)) ≡ all_suit (kept_at l.self) (forest_of l.siblings)
