use Rattle.std.proofs.Common.{◌≡◌, drop}
use Rattle.xt_import.specs.Table.{none_rises, number_in}
use Rattle.xt_import.proofs.numbers.none_rises.Given as goal

abbrev pub invariant-loop-link : goal.invariant-loop-link
invariant-loop-link l =
    none_rises (number_in l.table.entries l.numbers) l.own (drop l.link-index l.links) ≡ none_rises (number_in l.table.entries l.numbers) l.own l.links
