use Rattle.std.proofs.Common.{refl}
use Rattle.xt_session.proofs.Giving.{takes_then}
use Rattle.xt_session.proofs.Meeting.{kept_then_meets}
use Rattle.xt_session.proofs.meet.meet.Goals as goal

pub returns-in-Err-Memory-clause-met : goal.returns-in-Err-Memory-clause-met
returns-in-Err-Memory-clause-met g c =
    let kept = rw c.in-Err-Memory.field-0-is at c.in-Err-Memory.ensures in
    kept_then_meets c.meet_head.result _ _ (kept.memory refl) c.meet_head.ensures.met

pub returns-in-Err-Memory-clause-takes : goal.returns-in-Err-Memory-clause-takes
returns-in-Err-Memory-clause-takes g c =
    let takes = rw c.in-Err-Memory.field-0-is at c.in-Err-Memory.ensures.takes in
    takes_then takes c.meet_head.ensures.takes
