use Rattle.std.proofs.Common.{◌≡◌, ◌++◌, drop, map}
use Rattle.std.specs.List.{flat_map}
use Rattle.spec_compile.specs.Content.{variables_by}
use Rattle.xt_attributes.specs.View.{entry_in}
use Rattle.xt_attributes.proofs.entries.Entries.add_variables.Given as goal

abbrev pub invariant-loop-entry : goal.invariant-loop-entry
invariant-loop-entry l = l.into.items ++ flat_map (λ e. variables_by e.value) (map entry_in (drop l.entry-index l.entry-items)) ≡ l.fn.into.items ++ flat_map (λ e. variables_by e.value) (map entry_in l.entry-items)
