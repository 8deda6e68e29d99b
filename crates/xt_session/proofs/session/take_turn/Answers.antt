use Rattle.std.proofs.Common.{List, ℕ, subst, ◌∙◌}
use Rattle.xt_session.specs.Turn.{Writes}
use Rattle.xt_session.proofs.Answering.{stays_itself}
use Rattle.xt_session.proofs.Turning.{turned, gives_no_memory}
use Rattle.xt_session.proofs.session.take_turn.Goals as goal

pub returns-in-Ok-clause-turns : goal.returns-in-Ok-clause-turns
returns-in-Ok-clause-turns g c =
    let writes = subst
    (λ (bytes : List ℕ). Writes bytes (g.O.Sink.written c.args.output.now) c.write_reply.result (g.O.Sink.written c.write_reply.new.output))
    (c.as_bytes.ensures.value ∙ c.as_str.ensures.bytes) c.write_reply.ensures.writes in
    turned _ _ c.write_reply.result (record { command = c.in-Command.command; given = c.in-Command.ensures.taken; gives = c.in-Ok.ensures.ok }) writes

pub returns-in-Err-clause-turns : goal.returns-in-Err-clause-turns
returns-in-Err-clause-turns g c =
    let command = c.in-Command.command in
    turned _ _ c.write_reply-in-Err.result
    (record { command = command; given = c.in-Command.ensures.taken; gives = gives_no_memory command c.in-Err.ensures.err })
    c.write_reply-in-Err.ensures.writes

pub returns-in-Skipped-clause-turns : goal.returns-in-Skipped-clause-turns
returns-in-Skipped-clause-turns g c =
    let taken = c.in-Skipped.ensures.taken in
    turned _ _ c.write_reply-in-Skipped.result
    (record { command = taken.0; given = taken.1; gives = gives_no_memory taken.0 (stays_itself c.args.held.now) })
    c.write_reply-in-Skipped.ensures.writes
