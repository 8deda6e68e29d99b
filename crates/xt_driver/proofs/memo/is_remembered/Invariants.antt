use Rattle.std.proofs.Common.{◌≡◌, drop}
use Rattle.std.specs.List.{list_any}
use Rattle.xt_driver.specs.Referring.{has_name}
use Rattle.xt_driver.proofs.memo.is_remembered.Given as goal

abbrev pub invariant-loop-entry : goal.invariant-loop-entry
invariant-loop-entry l = list_any (has_name l.name) (drop l.entry-index l.entries) ≡ list_any (has_name l.name) l.entries
