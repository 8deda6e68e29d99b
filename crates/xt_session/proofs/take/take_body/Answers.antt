use Rattle.std.proofs.Common.{◌≡◌, [], ◌∷◌, ◌++◌, true, ◌∙◌, ap}
use Rattle.std.specs.Prelude.{is_ok, not}
use Rattle.xt_session.proofs.Taking.{goes_whole, goes_done, goes_cut, goes_took}
use Rattle.xt_session.proofs.Commands.{body_whole, body_more, body_finished, body_over, body_fails, end_by_line, end_by_head}
use Rattle.xt_session.proofs.take.take_body.Goals as goal

-- the line
pub returns-then-is_end-clause-taken : goal.returns-then-is_end-clause-taken
returns-then-is_end-clause-taken g c =
    let met = c.in-Line.ensures in
    let end = end_by_line c.as_bytes.ensures c.is_end.ensures c.if-is_end.true in
    goes_whole c.loop-next.invariant.0 (rw c.new.ensures (body_whole met.met met.takes end))

pub returns-then-is_err-clause-taken : goal.returns-then-is_err-clause-taken
returns-then-is_err-clause-taken g c =
    let met = c.in-Line.ensures in
    let end = end_by_line c.as_bytes.ensures c.is_end.ensures c.if-is_end.false in
    goes_took c.skip_body.result _ _ (body_more c.loop-next.invariant.0 met.met met.takes end)
    (c.skip_body.ensures.taken c.loop-next.line (c.loop-next.body.items ++ c.in-Line.next ∷ []))

pub loop-next-preserved : goal.loop-next-preserved
loop-next-preserved g c =
    let met = c.in-Line.ensures in
    let ok : is_ok c.push.result ≡ true = c.is_err.ensures.negation ∙ ap not c.if-is_err.false in
    let items : c.push.new.self.items ≡ c.loop-next.body.items ++ c.in-Line.next ∷ [] = rw ok at c.push.ensures.items in
    let end = end_by_line c.as_bytes.ensures c.is_end.ensures c.if-is_end.false in
    (rw items (body_more c.loop-next.invariant.0 met.met met.takes end), met.cause ∙ c.loop-next.invariant.1)

-- its head
pub returns-then-is_end-2-clause-taken : goal.returns-then-is_end-2-clause-taken
returns-then-is_end-2-clause-taken g c =
    let h = c.in-Head.ensures.met in
    let end = end_by_head h.0 h.1 c.as_bytes-in-Head.ensures c.is_end-in-Head.ensures c.if-is_end-2.true in
    (record { line = c.loop-next.line; body = c.loop-next.body.items }, goes_whole c.loop-next.invariant.0 (body_whole h.2 c.in-Head.ensures.takes end))

pub returns-in-Head-clause-taken : goal.returns-in-Head-clause-taken
returns-in-Head-clause-taken g c =
    let h = c.in-Head.ensures.met in
    let end = end_by_head h.0 h.1 c.as_bytes-in-Head.ensures c.is_end-in-Head.ensures c.if-is_end-2.false in
    goes_took c.skip_body-in-Head.result _ _ (body_more c.loop-next.invariant.0 h.2 c.in-Head.ensures.takes end)
    (c.skip_body-in-Head.ensures.taken c.loop-next.line (c.loop-next.body.items ++ h.0 ∷ []))

-- no line
pub returns-in-End-clause-taken : goal.returns-in-End-clause-taken
returns-in-End-clause-taken g c = goes_done c.loop-next.invariant.0 (body_finished _ _ c.in-End.ensures.met c.in-End.ensures.takes)

pub returns-in-Over-clause-taken : goal.returns-in-Over-clause-taken
returns-in-Over-clause-taken g c = goes_done c.loop-next.invariant.0 (body_over _ _ c.in-Over.ensures.met c.in-Over.ensures.takes)

pub returns-in-Failed-clause-taken : goal.returns-in-Failed-clause-taken
returns-in-Failed-clause-taken g c = goes_cut c.loop-next.invariant.0 (body_fails _ _ c.in-Failed.ensures.met c.in-Failed.ensures.takes)
