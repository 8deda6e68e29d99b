use Rattle.std.proofs.Common.{◌≡◌, drop}
use Rattle.spec_structure.specs.Modules.{is_among}
use Rattle.xt_import.proofs.order.is_among.Given as goal

abbrev pub invariant-loop-other : goal.invariant-loop-other
invariant-loop-other l = is_among l.fn.name (drop l.other-index l.names) ≡ is_among l.fn.name l.names
