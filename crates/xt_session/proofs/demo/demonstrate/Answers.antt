use Rattle.std.proofs.Common.{refl}
use Rattle.xt_session.proofs.demo.demonstrate.Goals as goal

pub returns-clause-write_failed : goal.returns-clause-write_failed
returns-clause-write_failed g c = λ is. c.in-Err.ensures.cause.failed refl
