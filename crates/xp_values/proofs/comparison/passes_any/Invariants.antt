use Rattle.std.proofs.Common.{◌≡◌, drop}
use Rattle.std.specs.List.{list_any}
use Rattle.xp_values.proofs.comparison.passes_any.Given as goal

abbrev pub invariant-loop-key : goal.invariant-loop-key
invariant-loop-key g l = list_any (g.C.Comparand.test l.operator l.left) (drop l.key-index l.keys) ≡ list_any (g.C.Comparand.test l.operator l.left) l.keys
