use Rattle.std.proofs.Common.{◌≡◌, ℕ, List, [], map, take, drop, Option, bytes_eq}
use Rattle.std.specs.List.{list_any}
use Rattle.spec_document.specs.Name.{Expanded, same_expanded}
use Rattle.spec_document.specs.Fault.{least}
use Rattle.spec_document.specs.NodeFaults.{attribute_faults}
use Rattle.xt_tree.specs.View.{written_of}
use Rattle.xt_build.specs.Least.{merged}
use Rattle.xt_build.specs.Names.{expanded_names}
use Rattle.xt_names.specs.NamesSoFar.{has_written, has_expanded}
use Rattle.xt_build.specs.View.{found_of}
use Rattle.xt_build.proofs.names.check_attributes.Given as goal

-- what was found, with the faults of the attributes that are left, and the names of those that were gone through
abbrev pub invariant-loop-i : goal.invariant-loop-i
invariant-loop-i l = record {
  told : merged (found_of l.found)
      (least (attribute_faults l.scope (map written_of (take l.i l.attributes)) (drop l.i l.lines) (map written_of (drop l.i l.attributes))))
      ≡ merged (found_of l.initial.found) (least (attribute_faults l.scope [] l.lines (map written_of l.attributes)));
  written : (name : List ℕ) → has_written l.names name ≡ list_any (λ b. bytes_eq b.name name) (map written_of (take l.i l.attributes));
  expanded : (name : Option Expanded)
      → has_expanded l.names name ≡ list_any (λ other. same_expanded other name) (expanded_names l.scope (map written_of (take l.i l.attributes)));
}
