use Rattle.std.proofs.Common.{◌≡◌, drop, map}
use Rattle.std.specs.Str.{chars}
use Rattle.spec_compile.specs.Value.{value_at}
use Rattle.xt_attributes.specs.View.{entry_in}
use Rattle.xt_attributes.proofs.entries.Entries.get.Given as goal

abbrev pub invariant-loop-entry : goal.invariant-loop-entry
invariant-loop-entry l = value_at (chars l.name) (map entry_in (drop l.entry-index l.entry-items)) ≡ value_at (chars l.name) (map entry_in l.entry-items)
