use Rattle.std.proofs.Common.{◌∙◌, refl}
use Rattle.xt_io.proofs.Holding.{none_kept, over_at, takes_over_at, skipped_line, skipped_all, skipped_more, skipped_last}
use Rattle.xt_io.proofs.lines.Lines.skip_line.Goals as goal

pub returns-then-skip_ended-clause-line : goal.returns-then-skip_ended-clause-line
returns-then-skip_ended-clause-line g c =
    let skip = c.if-skip_ended.ensures {u = tt} in
    skipped_line _ _ c.loop-front.self-inside.buffer c.skip_ended.new.self c.loop-front.front c.skip_ended.new.front _ _ c.loop-front.invariant.0
    c.loop-front.invariant.1 skip.gathered skip.skipped skip.still c.ended_head.ensures

pub loop-front-preserved : goal.loop-front-preserved
loop-front-preserved g c =
    let skip = c.if-skip_ended.ensures {u = tt} in
    let more = rw c.in-More.is at (c.in_ok-fill.ensures.ok) in
    let fill = c.in_ok-fill.ensures {u = tt} in
    let passed = skipped_all _ _ c.loop-front.self-inside.buffer c.skip_ended.new.self c.loop-front.front c.skip_ended.new.front _ c.loop-front.invariant.0
    c.loop-front.invariant.1 skip.gathered skip.skipped skip.still in (
      skipped_more _ _ c.skip_ended.new.self c.fill.new.self c.skip_ended.new.front _ _ passed skip.skipped.rest_empty fill.gathered more,
      fill.gathered ∙ skip.gathered ∙ c.loop-front.invariant.1,
      fill.cause.fine refl ∙ c.loop-front.invariant.2,
      λ e. fill.unread (passed.2.at_end ∙ e) ∙ c.loop-front.invariant.3 e,
    )

pub returns-in-End-clause-line : goal.returns-in-End-clause-line
returns-in-End-clause-line g c =
    let skip = c.if-skip_ended.ensures {u = tt} in
    let end = rw c.in-End.is at (c.in_ok-fill.ensures.ok) in
    let fill = c.in_ok-fill.ensures {u = tt} in
    let passed = skipped_all _ _ c.loop-front.self-inside.buffer c.skip_ended.new.self c.loop-front.front c.skip_ended.new.front _ c.loop-front.invariant.0
    c.loop-front.invariant.1 skip.gathered skip.skipped skip.still in
    skipped_last _ _ c.skip_ended.new.self c.fill.new.self c.skip_ended.new.front _ _ c.last_head.result passed (skip.gathered ∙ c.loop-front.invariant.1)
    skip.skipped.rest_empty fill.gathered end c.last_head.ensures

pub returns-in-Over-clause-over : goal.returns-in-Over-clause-over
returns-in-Over-clause-over g c =
    let skip = c.if-skip_ended.ensures {u = tt} in
    let end = rw c.in-Over.is at (c.in_ok-fill.ensures.ok) in
    let passed = skipped_all _ _ c.loop-front.self-inside.buffer c.skip_ended.new.self c.loop-front.front c.skip_ended.new.front _ c.loop-front.invariant.0
    c.loop-front.invariant.1 skip.gathered skip.skipped skip.still in
    λ _. over_at _ _ passed.0 c.skip_ended.new.self c.fill.new.self _ _ passed.2 (none_kept c.skip_ended.new.self skip.skipped.rest_empty) end

pub returns-in-Over-clause-takes : goal.returns-in-Over-clause-takes
returns-in-Over-clause-takes g c =
    let skip = c.if-skip_ended.ensures {u = tt} in
    let end = rw c.in-Over.is at (c.in_ok-fill.ensures.ok) in
    let passed = skipped_all _ _ c.loop-front.self-inside.buffer c.skip_ended.new.self c.loop-front.front c.skip_ended.new.front _ c.loop-front.invariant.0
    c.loop-front.invariant.1 skip.gathered skip.skipped skip.still in
    takes_over_at _ _ passed.0 c.skip_ended.new.self c.fill.new.self _ _ passed.2 end
