use Rattle.std.proofs.Common.{◌≡◌}
use Rattle.xt_import.specs.Table.{none_rise, number_in}
use Rattle.xt_import.proofs.numbers.none_rise.Given as goal

abbrev pub invariant-loop-name : goal.invariant-loop-name
invariant-loop-name l =
    none_rise (number_in l.table.entries l.numbers) l.name-iterator ≡ none_rise (number_in l.table.entries l.numbers) l.table.entries
