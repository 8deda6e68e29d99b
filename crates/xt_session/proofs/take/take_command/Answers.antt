use Rattle.std.proofs.Common.{[], refl, ◌∙◌}
use Rattle.spec_session.specs.Command.{session_of}
use Rattle.xt_session.proofs.Taking.{goes_at_start, goes_whole, goes_done, goes_cut, goes_took}
use Rattle.xt_session.proofs.Commands.{goes_empty, goes_body, done_quit, done_finished, done_over, done_fails, alone_whole, alone_took, kind_by_line}
use Rattle.xt_session.proofs.Commands.{kind_by_head}
use Rattle.xt_session.proofs.take.take_command.Goals as goal

pub loop-line-init : goal.loop-line-init
loop-line-init g c = (goes_at_start session_of c.args.lines.now (g.I.Source.remaining c.args.input.now), refl)

-- the line
pub returns-in-Quit-clause-taken : goal.returns-in-Quit-clause-taken
returns-in-Quit-clause-taken g c =
    let met = c.in-Line.ensures in
    goes_done c.loop-line.invariant.0 (done_quit met.met met.takes (kind_by_line c.as_bytes.ensures c.in-Quit.ensures))

pub returns-in-WithBody-clause-taken : goal.returns-in-WithBody-clause-taken
returns-in-WithBody-clause-taken g c =
    let met = c.in-Line.ensures in
    goes_took c.take_body.result _ _ (goes_body c.loop-line.invariant.0 met.met met.takes (kind_by_line c.as_bytes.ensures c.in-WithBody.ensures))
    c.take_body.ensures.taken

pub returns-in-Alone-clause-taken : goal.returns-in-Alone-clause-taken
returns-in-Alone-clause-taken g c =
    let met = c.in-Line.ensures in
    goes_took c.alone.result _ _ c.loop-line.invariant.0
    (alone_took c.alone.result c.alone.ensures met.met met.takes (kind_by_line c.as_bytes.ensures c.in-Alone.ensures))

pub loop-line-preserved-in-Line : goal.loop-line-preserved-in-Line
loop-line-preserved-in-Line g c =
    let met = c.in-Line.ensures in
    (goes_empty c.loop-line.invariant.0 met.met met.takes (kind_by_line c.as_bytes.ensures c.in-Empty.ensures), met.cause ∙ c.loop-line.invariant.1)

-- its head
pub returns-in-Quit-kind_of-clause-taken : goal.returns-in-Quit-kind_of-clause-taken
returns-in-Quit-kind_of-clause-taken g c =
    let h = c.in-Head.ensures.met in
    goes_done c.loop-line.invariant.0
    (done_quit h.2 c.in-Head.ensures.takes (kind_by_head h.0 h.1 c.as_bytes-in-Head.ensures c.in-Quit-kind_of.ensures))

pub returns-in-WithBody-kind_of-clause-taken : goal.returns-in-WithBody-kind_of-clause-taken
returns-in-WithBody-kind_of-clause-taken g c =
    let h = c.in-Head.ensures.met in
    let kind = kind_by_head h.0 h.1 c.as_bytes-in-Head.ensures c.in-WithBody-kind_of.ensures in
    goes_took c.skip_body.result _ _ (goes_body c.loop-line.invariant.0 h.2 c.in-Head.ensures.takes kind) (c.skip_body.ensures.taken h.0 [])

pub returns-in-Alone-kind_of-clause-taken : goal.returns-in-Alone-kind_of-clause-taken
returns-in-Alone-kind_of-clause-taken g c =
    let h = c.in-Head.ensures.met in
    let kind = kind_by_head h.0 h.1 c.as_bytes-in-Head.ensures c.in-Alone-kind_of.ensures in
    (record { line = h.0; body = [] }, goes_whole c.loop-line.invariant.0 (alone_whole h.2 c.in-Head.ensures.takes kind))

pub loop-line-preserved : goal.loop-line-preserved
loop-line-preserved g c =
    let h = c.in-Head.ensures.met in
    let kind = kind_by_head h.0 h.1 c.as_bytes-in-Head.ensures c.in-Empty-kind_of.ensures in
    (goes_empty c.loop-line.invariant.0 h.2 c.in-Head.ensures.takes kind, c.in-Head.ensures.cause ∙ c.loop-line.invariant.1)

-- no line
pub returns-in-End-clause-taken : goal.returns-in-End-clause-taken
returns-in-End-clause-taken g c = goes_done c.loop-line.invariant.0 (done_finished c.in-End.ensures.met c.in-End.ensures.takes)

pub returns-in-Over-clause-taken : goal.returns-in-Over-clause-taken
returns-in-Over-clause-taken g c = goes_done c.loop-line.invariant.0 (done_over c.in-Over.ensures.met c.in-Over.ensures.takes)

pub returns-in-Failed-clause-taken : goal.returns-in-Failed-clause-taken
returns-in-Failed-clause-taken g c = goes_cut c.loop-line.invariant.0 (done_fails c.in-Failed.ensures.met c.in-Failed.ensures.takes)
