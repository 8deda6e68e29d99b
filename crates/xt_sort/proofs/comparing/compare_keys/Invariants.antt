use Rattle.std.proofs.Common.{◌≡◌, map}
use Rattle.xt_sort.specs.Order.{keys_order}
use Rattle.xt_sort.specs.View.{criterion_of, key_of}
use Rattle.xt_sort.proofs.Keys.{order_from}
use Rattle.xt_sort.proofs.comparing.compare_keys.Given as goal

abbrev pub invariant-loop-index : goal.invariant-loop-index
invariant-loop-index l = order_from l.index l.criteria l.first l.second ≡ keys_order (map criterion_of l.criteria) (map key_of l.first) (map key_of l.second)
