use Rattle.xt_held.specs.View.{told_of}
use Rattle.xt_session.proofs.Answering.{gives_told}
use Rattle.xt_session.proofs.changes.adopt.Goals as goal

pub returns-clause-ok : goal.returns-clause-ok
returns-clause-ok c =
    gives_told c.args.held.now c.args.ready (told_of c.args.ready) c.in_ok-text.text c.requires.made_from.outcome
    (λ i. record { documents = c.adopt.ensures.present i; made = c.adopt.ensures.made i; pending = c.adopt.ensures.pending i }) c.in_ok-text.ensures

pub returns-clause-past : goal.returns-clause-past
returns-clause-past c = c.adopt.ensures.past
