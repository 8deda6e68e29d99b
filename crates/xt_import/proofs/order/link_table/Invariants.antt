use Rattle.std.proofs.Common.{◌≡◌, ◌+◌, [], ◌∷◌, length, map, reverse}
use Rattle.std.specs.Str.{chars}
use Rattle.spec_structure.specs.Modules.{links_in}
use Rattle.xt_import.specs.Pending.{GoesOn, unread}
use Rattle.xt_import.specs.Table.{lists_of, names_of}
use Rattle.xt_import.specs.View.{modules_in}
use Rattle.xt_import.proofs.order.link_table.Given as goal

abbrev pub invariant-loop-name : goal.invariant-loop-name
invariant-loop-name l = record {
  goes_on : GoesOn (modules_in l.fn.modules.entries) (names_of l.table.entries) (reverse l.pending.items) [] (chars l.fn.main ∷ []);
  same_links : lists_of l.table.entries ≡ map (links_in (modules_in l.fn.modules.entries)) (names_of l.table.entries);
}

abbrev pub decreases-loop-name : goal.decreases-loop-name
decreases-loop-name l = length l.pending.items + unread (names_of l.table.entries) l.fn.modules.entries
