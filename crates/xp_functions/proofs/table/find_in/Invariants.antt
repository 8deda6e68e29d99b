use Rattle.std.proofs.Common.{◌≡◌, map, drop}
use Rattle.spec_meaning.specs.Function.{found_in}
use Rattle.xp_functions.specs.Found.{row_of}
use Rattle.xp_functions.proofs.table.find_in.Given as goal

abbrev pub invariant-loop-row : goal.invariant-loop-row
invariant-loop-row l = found_in (map row_of (drop l.row-index l.rows)) l.name l.arguments ≡ found_in (map row_of l.rows) l.name l.arguments
