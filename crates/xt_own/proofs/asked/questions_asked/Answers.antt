use Rattle.std.proofs.Common.{map, take, arith}
use Rattle.xt_questions.specs.View.{read_of}
use Rattle.xt_own.proofs.Reading.{next_read}
use Rattle.xt_own.proofs.asked.questions_asked.Goals as goal

pub loop-read-preserved : goal.loop-read-preserved
loop-read-preserved c =
    next_read c.args.reads.now c.loop-read.read-index c.read-item.result (omega arith) c.read-item.is
    (c.in_ok-is_told.ensures c.if-not-is_told.false (map read_of (take c.loop-read.read-index c.args.reads.now)) c.loop-read.invariant)
