use Rattle.std.proofs.Common.{refl}
use Rattle.xt_session.proofs.Meeting.{fails_lost}
use Rattle.xt_session.proofs.meet.meet_head.Goals as goal

pub returns-in-Err-Failed-clause-met : goal.returns-in-Err-Failed-clause-met
returns-in-Err-Failed-clause-met g c =
    let failed = rw c.in-Err-Failed.field-0-is at c.in-Err-Failed.ensures in
    fails_lost c.args.lines.now _ _ (failed.asked refl) (failed.inside refl)
