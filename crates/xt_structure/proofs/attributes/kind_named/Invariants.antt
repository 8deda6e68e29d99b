use Rattle.std.proofs.Common.{◌≡◌, drop, map}
use Rattle.std.specs.Str.{chars}
use Rattle.spec_structure.specs.Structure.{kind_named}
use Rattle.xt_structure.specs.View.{row_of}
use Rattle.xt_structure.proofs.attributes.kind_named.Given as goal

abbrev pub invariant-loop-row : goal.invariant-loop-row
invariant-loop-row l = kind_named (chars l.local) (map row_of (drop l.row-index l.rows)) ≡ kind_named (chars l.local) (map row_of l.rows)
