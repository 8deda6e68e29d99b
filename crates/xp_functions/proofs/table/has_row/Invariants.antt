use Rattle.std.proofs.Common.{◌≡◌, map, drop, bytes_eq}
use Rattle.std.specs.List.{list_any}
use Rattle.xp_functions.specs.Found.{row_of}
use Rattle.xp_functions.proofs.table.has_row.Given as goal

abbrev pub invariant-loop-row : goal.invariant-loop-row
invariant-loop-row l =
    list_any (λ r. bytes_eq l.name r.name) (map row_of (drop l.row-index l.rows)) ≡ list_any (λ r. bytes_eq l.name r.name) (map row_of l.rows)
