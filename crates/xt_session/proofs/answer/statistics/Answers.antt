use Rattle.std.proofs.Common.{sym, subst}
use Rattle.spec_session.specs.Machine.{IsFreeFor}
use Rattle.xt_held.specs.View.{counts_in, outcome_in}
use Rattle.xt_held.specs.declared.counts.Counts.{Counts}
use Rattle.xt_wire.specs.View.{reply_of}
use Rattle.xt_session.proofs.Answering.{free_for, if_ok_map, replies_counts}
use Rattle.xt_session.proofs.answer.statistics.Goals as goal

pub returns : goal.returns
returns c =
    let held = c.args.held.now in
    let counts = c.stats-counts.result in
    let free : IsFreeFor (outcome_in held) counts.ran counts.asked counts.did =
    subst (λ (counts : Counts). IsFreeFor (outcome_in held) counts.ran counts.asked counts.did) (sym c.stats-counts.ensures)
    (free_for (outcome_in held) (counts_in held) c.requires.free) in
    if_ok_map _ _ c.text_of.result
    (λ text e. replies_counts held (outcome_in held) counts (reply_of c.counts_reply.result) c.requires.outcome
    (c.counts_reply.ensures.tells (outcome_in held) free) c.stats-counts.ensures c.counts_reply.ensures.is e) c.text_of.ensures
