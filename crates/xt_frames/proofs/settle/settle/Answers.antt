use Rattle.std.proofs.Common.{refl}
use Rattle.xt_progress.specs.View.{going_of}
use Rattle.xt_frames.proofs.settle.settle.Goals as goal

pub returns-in_ok-note_reads-in-Ok : goal.returns-in_ok-note_reads-in-Ok
returns-in_ok-note_reads-in-Ok g c = rw c.in-Ok.is (record { so = (refl, c.in_ok-note_reads-in-Ok.ensures) })

pub returns-in-Err : goal.returns-in-Err
returns-in-Err g c = rw c.in-Err.is (c.halt.ensures (going_of c.args.going.now) c.args.reads.items)
