use Rattle.std.proofs.Common.{◌≡◌}
use Rattle.std.specs.Ordering.{nat_cmp}
use Rattle.std.specs.Cmp.Lexicographic.{slice_cmp}
use Rattle.std.specs.FinMap.Entries.{find}
use Rattle.std.specs.Str.{chars}
use Rattle.xt_names.specs.SearchTree.{link_entries, IsOrdered}
use Rattle.xt_names.proofs.search_tree.find.Given as goal

-- what is found below is what is found at all
abbrev pub invariant-loop-below : goal.invariant-loop-below
invariant-loop-below l = record {
  ordered : IsOrdered (link_entries l.below);
  found : find (slice_cmp nat_cmp) (chars l.prefix) (link_entries l.below) ≡ find (slice_cmp nat_cmp) (chars l.prefix) (link_entries l.link);
}
