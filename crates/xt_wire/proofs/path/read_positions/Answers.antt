use Rattle.std.proofs.Common.{length, sym, ap, ◌∙◌}
use Rattle.std.specs.List.{slice_split}
use Rattle.std.proofs.lemmas.List.{length_push}
use Rattle.std.proofs.lemmas.Iterator.Consumers.{YieldsList-turn, YieldsList-end}
use Rattle.spec_session.specs.Request.{is_slash}
use Rattle.xt_wire.proofs.Paths.{positions, parts_split, parts_given, position_more, no_position, positions_end, at_start}
use Rattle.xt_wire.proofs.path.read_positions.Goals as goal

pub loop-part-init : goal.loop-part-init
loop-part-init c = at_start c.new-path.result (positions (slice_split is_slash c.args.text.now)) c.new-path.ensures

pub loop-part-preserved : goal.loop-part-preserved
loop-part-preserved c =
    let split = c.split-part-items in
    let parts = parts_given c.args.text.now _ split.result c.into_iter-part-iterator.ensures.into_iter_gives split.ensures.text split.ensures.has_more
    split.ensures.pattern in
    let turn = YieldsList-turn parts c.loop-part.yielded _ c.loop-part.yielded_by _ _ c.in-Some.part c.in-Some.is c.next.ensures.steps in
    rw (length_push c.loop-part.yielded c.in-Some.part)
    (position_more (slice_split is_slash c.args.text.now) c.loop-part.path c.push.new.self c.in-Some.part.now (length c.loop-part.yielded)
    c.in-Some-read_position.position
    turn c.in-Some-read_position.ensures c.in_ok-push-in-Some-read_position.ensures.ok c.loop-part.invariant)

pub returns-in-None-read_position : goal.returns-in-None-read_position
returns-in-None-read_position c =
    let split = c.split-part-items in
    let parts = parts_given c.args.text.now _ split.result c.into_iter-part-iterator.ensures.into_iter_gives split.ensures.text split.ensures.has_more
    split.ensures.pattern in
    let turn = YieldsList-turn parts c.loop-part.yielded _ c.loop-part.yielded_by _ _ c.in-Some.part c.in-Some.is c.next.ensures.steps in
    sym (ap positions (parts_split c.args.text.now)
    ∙ no_position (slice_split is_slash c.args.text.now) c.loop-part.path c.in-Some.part.now (length c.loop-part.yielded) turn
    c.in-None-read_position.ensures c.loop-part.invariant)

pub returns : goal.returns
returns c =
    let split = c.split-part-items in
    let parts = parts_given c.args.text.now _ split.result c.into_iter-part-iterator.ensures.into_iter_gives split.ensures.text split.ensures.has_more
    split.ensures.pattern in
    let end = YieldsList-end parts c.loop-part.yielded _ c.loop-part.yielded_by _ _ c.in-None.is c.next.ensures.steps in
    sym (ap positions (parts_split c.args.text.now)
    ∙ positions_end (slice_split is_slash c.args.text.now) c.loop-part.path (length c.loop-part.yielded) end.1 c.loop-part.invariant)
