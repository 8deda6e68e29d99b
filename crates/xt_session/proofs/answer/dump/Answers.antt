use Rattle.xt_wire.specs.View.{name_of}
use Rattle.xt_session.proofs.Answering.{if_ok_map, replies_missing}
use Rattle.xt_session.proofs.answer.dump.Goals as goal

pub returns-in-None : goal.returns-in-None
returns-in-None c =
    if_ok_map _ _ c.text_of-in-None.result (λ text e. replies_missing c.args.held.now (name_of c.args.name.now) c.in-None.ensures e) c.text_of-in-None.ensures
