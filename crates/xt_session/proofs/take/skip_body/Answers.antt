use Rattle.std.proofs.Common.{refl, ◌∙◌}
use Rattle.xt_session.proofs.Taking.{goes_whole, goes_done, goes_cut}
use Rattle.xt_session.proofs.Commands.{skips_at_start, skips_more, body_whole, body_finished, body_over, body_fails, end_by_line, end_by_head}
use Rattle.xt_session.proofs.take.skip_body.Goals as goal

pub loop-next-init : goal.loop-next-init
loop-next-init g c = (skips_at_start c.args.lines.now (g.I.Source.remaining c.args.input.now), refl)

-- the line
pub returns-then-is_end-clause-taken : goal.returns-then-is_end-clause-taken
returns-then-is_end-clause-taken g c = λ line body.
    let met = c.in-Line.ensures in
    let on = c.loop-next.invariant.0 line body in
    let end = end_by_line c.as_bytes.ensures c.is_end.ensures c.if-is_end.true in
    (record { line = line; body = on.0 }, goes_whole on.1 (body_whole met.met met.takes end))

pub loop-next-preserved-in-Line : goal.loop-next-preserved-in-Line
loop-next-preserved-in-Line g c =
    let met = c.in-Line.ensures in
    let end = end_by_line c.as_bytes.ensures c.is_end.ensures c.if-is_end.false in
    (skips_more _ _ c.loop-next.invariant.0 met.met met.takes end, met.cause ∙ c.loop-next.invariant.1)

-- its head
pub returns-then-is_end-2-clause-taken : goal.returns-then-is_end-2-clause-taken
returns-then-is_end-2-clause-taken g c = λ line body.
    let h = c.in-Head.ensures.met in
    let on = c.loop-next.invariant.0 line body in
    let end = end_by_head h.0 h.1 c.as_bytes-in-Head.ensures c.is_end-in-Head.ensures c.if-is_end-2.true in
    (record { line = line; body = on.0 }, goes_whole on.1 (body_whole h.2 c.in-Head.ensures.takes end))

pub loop-next-preserved : goal.loop-next-preserved
loop-next-preserved g c =
    let h = c.in-Head.ensures.met in
    let end = end_by_head h.0 h.1 c.as_bytes-in-Head.ensures c.is_end-in-Head.ensures c.if-is_end-2.false in
    (skips_more _ _ c.loop-next.invariant.0 h.2 c.in-Head.ensures.takes end, c.in-Head.ensures.cause ∙ c.loop-next.invariant.1)

-- no line
pub returns-in-End-clause-taken : goal.returns-in-End-clause-taken
returns-in-End-clause-taken g c = λ line body.
    let on = c.loop-next.invariant.0 line body in
    goes_done on.1 (body_finished line on.0 c.in-End.ensures.met c.in-End.ensures.takes)

pub returns-in-Over-clause-taken : goal.returns-in-Over-clause-taken
returns-in-Over-clause-taken g c = λ line body.
    let on = c.loop-next.invariant.0 line body in
    goes_done on.1 (body_over line on.0 c.in-Over.ensures.met c.in-Over.ensures.takes)

pub returns-in-Failed-clause-taken : goal.returns-in-Failed-clause-taken
returns-in-Failed-clause-taken g c = λ line body.
    let on = c.loop-next.invariant.0 line body in
    goes_cut on.1 (body_fails line on.0 c.in-Failed.ensures.met c.in-Failed.ensures.takes)
