use Rattle.std.proofs.Common.{◌≡◌, ◌-◌, length, rules}
use Rattle.xt_import.specs.View.{modules_in}
use Rattle.xt_import.proofs.Ordering.{orders, closes}
use Rattle.xt_import.proofs.precedence.take.Goals as goal

pub returns-in-Order : goal.returns-in-Order
returns-in-Order c =
    let g = rw c.in-Some.is at c.in_ok-gather-in-Order.ensures.gathered in
    let start : c.len-start.result ≡ length c.args.sheets.now.items = search rules in
    orders (modules_in c.args.modules.now.entries) c.in-Order.target _ _ c.args.sheets.now.items _ c.args.task _ c.args.tasks.now.items c.push_imports.new.tasks.items
    c.in-Order.is g start c.in_ok-push-in-Some.ensures.items c.in_ok-push_imports-in-Some.ensures

pub returns : goal.returns
returns c =
    let many : c.saturating_sub-imported.result ≡ length c.args.sheets.now.items - c.in-Close.start = search rules in
    closes (modules_in c.args.modules.now.entries) c.args.sheets.now.items c.push-in-Close.new.self.items c.in-Close.parts c.in-Close.start _ c.args.task _
    c.in-Close.is many c.in_ok-push-in-Close.ensures.items
