use Rattle.std.proofs.Common.{ℕ, ◌≡◌}
use Rattle.spec_document.specs.Forest.{size}
use Rattle.xt_tree.specs.Keys.{Rises, key_by}
use Rattle.xt_tree.specs.View.{forest_of, first_tree}
use Rattle.xt_tree.proofs.find.find.Given as goal

abbrev pub invariant-down : goal.invariant-down
invariant-down l = record {
  tree : first_tree l.id.number (forest_of l.current) ≡ first_tree l.id.number (forest_of l.siblings);
  rises : (low : ℕ) × Rises (key_by l.keys) low (forest_of l.current);
}

abbrev pub decreases-down : goal.decreases-down
decreases-down l = size (forest_of l.current)
