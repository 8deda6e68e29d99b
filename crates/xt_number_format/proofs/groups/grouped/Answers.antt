use Rattle.std.proofs.Common.{length}
use Rattle.std.proofs.lemmas.Iterator.{YieldsList-from_chars}
use Rattle.std.proofs.lemmas.Iterator.Consumers.{YieldsList-turn, YieldsList-end}
use Rattle.std.proofs.lemmas.List.{length_push}
use Rattle.std.specs.Str.{chars}
use Rattle.xt_number_format.proofs.Grouped.{starts, one_is_left, digit_written, all_written}
use Rattle.xt_number_format.proofs.groups.grouped.Goals as goal

pub loop-digit-init : goal.loop-digit-init
loop-digit-init c =
    starts c.args.grouping.now c.new-text.result c.count_characters-behind.result (chars c.args.digits.now) c.new-text.ensures
    c.count_characters-behind.ensures

pub overflow_sub-behind : goal.overflow_sub-behind
overflow_sub-behind c =
    let turn = YieldsList-turn (YieldsList-from_chars c.args.digits.now c.utf8.digits cc) c.loop-digit.yielded _ c.loop-digit.yielded_by _ _
    c.in-Some.digit c.in-Some.is c.next.ensures.steps in
    one_is_left c.args.grouping.now c.loop-digit.text c.loop-digit.behind (length c.loop-digit.yielded) c.in-Some.digit (chars c.args.digits.now)
    (chars c.args.digits.now) turn c.loop-digit.invariant

pub loop-digit-preserved : goal.loop-digit-preserved
loop-digit-preserved c =
    let turn = YieldsList-turn (YieldsList-from_chars c.args.digits.now c.utf8.digits cc) c.loop-digit.yielded _ c.loop-digit.yielded_by _ _
    c.in-Some.digit c.in-Some.is c.next.ensures.steps in
    rw (length_push c.loop-digit.yielded c.in-Some.digit)
    (digit_written c.args.grouping.now c.loop-digit.text c.push_digit.new.text c.loop-digit.behind (length c.loop-digit.yielded) c.in-Some.digit
    (chars c.args.digits.now) (chars c.args.digits.now) turn c.in_ok-push_digit.ensures c.loop-digit.invariant)

pub returns : goal.returns
returns c =
    let end = YieldsList-end (YieldsList-from_chars c.args.digits.now c.utf8.digits cc) c.loop-digit.yielded _ c.loop-digit.yielded_by _ _ c.in-None.is
    c.next.ensures.steps in
    all_written c.args.grouping.now c.loop-digit.text c.loop-digit.behind (length c.loop-digit.yielded) (chars c.args.digits.now)
    (chars c.args.digits.now) end.1 c.loop-digit.invariant
