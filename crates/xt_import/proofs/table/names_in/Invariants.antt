use Rattle.std.proofs.Common.{◌≡◌, ◌++◌, map, string_bytes}
use Rattle.std.specs.Str.{chars}
use Rattle.xt_import.specs.Table.{names_of}
use Rattle.xt_import.proofs.table.names_in.Given as goal

abbrev pub invariant-loop-name : goal.invariant-loop-name
invariant-loop-name l =
    l.names.items ++ map (λ key. chars (string_bytes key)) l.name-iterator ≡ names_of l.table.entries
