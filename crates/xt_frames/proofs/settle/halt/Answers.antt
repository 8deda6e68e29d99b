use Rattle.std.proofs.Common.{refl}
use Rattle.xt_frames.proofs.settle.halt.Goals as goal

pub returns-in_ok-locate-in-Refused : goal.returns-in_ok-locate-in-Refused
returns-in_ok-locate-in-Refused g c s reads = rw c.in-Refused.is (record { so = (c.in_ok-locate-in-Refused.ensures, refl) })

pub returns-in-Wants : goal.returns-in-Wants
returns-in-Wants g c s reads = rw c.in-Wants.is (record { so = (refl, refl) })
