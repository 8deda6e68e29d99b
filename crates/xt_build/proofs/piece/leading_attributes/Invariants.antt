use Rattle.std.proofs.Common.{◌≡◌, ◌++◌, map, drop}
use Rattle.xt_tree.specs.View.{written_of}
use Rattle.xt_build.specs.Front.{attributes_first}
use Rattle.xt_build.specs.View.{located_of}
use Rattle.xt_build.proofs.piece.leading_attributes.Given as goal

abbrev pub invariant-loop-located : goal.invariant-loop-located
invariant-loop-located l = record {
  attributes : map written_of l.attributes.items ++ map (λ a. a.1) (attributes_first (map located_of (drop l.located-index l.events)))
      ≡ map (λ a. a.1) (attributes_first (map located_of l.events));
  lines : l.lines.items ++ map (λ a. a.0) (attributes_first (map located_of (drop l.located-index l.events)))
      ≡ map (λ a. a.0) (attributes_first (map located_of l.events));
}
