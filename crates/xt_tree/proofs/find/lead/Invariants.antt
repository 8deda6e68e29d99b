use Rattle.std.proofs.Common.{ℕ, ◌≡◌, ◌++◌}
use Rattle.std.specs.Option.{option_map}
use Rattle.spec_document.specs.Forest.{size}
use Rattle.xt_tree.specs.Keys.{Rises, key_by}
use Rattle.xt_tree.specs.View.{forest_of, way_to}
use Rattle.xt_tree.proofs.find.lead.Given as goal

abbrev pub invariant-down : goal.invariant-down
invariant-down l = record {
  way : option_map (λ way. l.path ++ way) (way_to l.id.number 1 (forest_of l.current))
      ≡ option_map (λ way. l.fn.path ++ way) (way_to l.id.number 1 (forest_of l.siblings));
  rises : (low : ℕ) × Rises (key_by l.keys) low (forest_of l.current);
}

abbrev pub decreases-down : goal.decreases-down
decreases-down l = size (forest_of l.current)
