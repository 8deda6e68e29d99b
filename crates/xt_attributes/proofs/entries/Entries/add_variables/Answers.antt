use Rattle.std.proofs.Common.{List, map, refl, arith}
use Rattle.std.specs.List.{flat_map}
use Rattle.spec_compile.specs.Content.{variables_by}
use Rattle.xt_attributes.specs.View.{entry_in}
use Rattle.xt_attributes.specs.declared.entries.Entry.{Entry}
use Rattle.xt_attributes.proofs.Adding.{next_added}
use Rattle.xt_attributes.proofs.entries.Entries.add_variables.Goals as goal

pub loop-entry-preserved : goal.loop-entry-preserved
loop-entry-preserved c =
    next_added (λ (es : List Entry). flat_map (λ e. variables_by e.value) (map entry_in es)) (λ e. variables_by (entry_in e).value) _
    c.loop-entry.entry-index c.entry-item.result c.loop-entry.into.items c.add_variables.new.into.items (λ left. refl) (omega arith) c.entry-item.is
    c.in_ok-add_variables.ensures c.loop-entry.invariant
