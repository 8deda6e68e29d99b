use Rattle.std.proofs.Common.{refl}
use Rattle.std.proofs.lemmas.Result.{on_ok_weaker}
use Rattle.xt_number_format.proofs.Grouped.{parted, unparted}
use Rattle.xt_number_format.proofs.groups.push_digit.Goals as goal

pub returns-then-ends_group : goal.returns-then-ends_group
returns-then-ends_group c =
    on_ok_weaker c.push_str.result
    (λ added. parted c.args.grouping.now _ c.args.text.now c.push.new.self c.push_str.new.self _ c.args.behind c.args.digit c.ends_group.result
    c.grouping.view_is c.ends_group.ensures c.if-ends_group.true c.in_ok-push.ensures.ok refl added)
    c.push_str.ensures.ok

pub returns : goal.returns
returns c =
    unparted c.args.grouping.now _ c.args.text.now c.push.new.self c.args.behind c.args.digit c.ends_group.result c.grouping.view_is
    c.ends_group.ensures c.if-ends_group.false c.in_ok-push.ensures.ok
