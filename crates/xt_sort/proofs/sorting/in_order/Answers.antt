use Rattle.std.proofs.Common.{◌≡◌, rules, Bool, map, is_lt}
use Rattle.std.proofs.lemmas.Fn.{always_returns_same}
use Rattle.spec_transform.proofs.Arranged.{sorts}
use Rattle.xt_sort.specs.declared.row.Row.{Row}
use Rattle.xt_sort.specs.Order.{keys_order}
use Rattle.xt_sort.specs.View.{criterion_of, row_of}
use Rattle.xt_sort.proofs.Orders.{keys_less, rows_order}
use Rattle.xt_sort.proofs.sorting.in_order.Goals as goal

pub returns : goal.returns
returns c =
    let cs = map criterion_of c.args.criteria.now in
    let before : Row → Row → Bool = λ x y. is_lt (keys_order cs (row_of x).keys (row_of y).keys) in
    let done = c.in_ok-sort_by.ensures {u = tt} in
    let answers = always_returns_same _ (λ a r. is_lt r ≡ before a.0.now a.1.0.now) _ (λ a r f' k. search rules) in
    sorts before (rows_order cs row_of) cs row_of (λ x y. keys_less cs (row_of x).keys (row_of y).keys) c.args.rows.items c.sort_by.new.self.items
    (done.sorted before (rows_order cs row_of) answers) (done.stable before (rows_order cs row_of) answers)
