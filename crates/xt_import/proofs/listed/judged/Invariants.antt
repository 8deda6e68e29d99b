use Rattle.std.proofs.Common.{◌≡◌, ◌++◌}
use Rattle.std.specs.List.{All}
use Rattle.xt_import.specs.Table.{AreKnown, names_of, number_in}
use Rattle.xt_import.specs.Tree.{IsJudged, names_in}
use Rattle.xt_import.specs.View.{modules_in}
use Rattle.xt_import.proofs.listed.judged.Given as goal

abbrev pub invariant-loop-name : goal.invariant-loop-name
invariant-loop-name l = record {
  names : names_in l.listed.items ++ names_of l.name-iterator ≡ names_of l.table.entries;
  link_faults : AreKnown (modules_in l.fn.modules.entries) (number_in l.table.entries l.numbers) l.table.entries
      → AreKnown (modules_in l.fn.modules.entries) (number_in l.table.entries l.numbers) l.name-iterator × All (IsJudged (modules_in l.fn.modules.entries)) l.listed.items;
}
