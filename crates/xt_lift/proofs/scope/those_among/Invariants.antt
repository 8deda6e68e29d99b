use Rattle.std.proofs.Common.{◌≡◌, ◌++◌, drop}
use Rattle.std.specs.List.{filter, list_any}
use Rattle.spec_document.specs.Name.{same_name}
use Rattle.xt_lift.proofs.scope.those_among.Given as goal

abbrev pub invariant-loop-name : goal.invariant-loop-name
invariant-loop-name l = l.names.items ++ filter (λ name. list_any (same_name name) l.others) (drop l.name-index l.list) ≡ filter (λ name. list_any (same_name name) l.others) l.list
