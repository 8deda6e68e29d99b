use Rattle.xt_io.proofs.Reading.{reads}
use Rattle.xt_io.proofs.buffer.read_front.Goals as goal

pub returns-clause-bytes : goal.returns-clause-bytes
returns-clause-bytes g c = reads c.read.result _ _ _ _ _ c.read.ensures.within c.read.auto.into c.read.ensures.bytes
