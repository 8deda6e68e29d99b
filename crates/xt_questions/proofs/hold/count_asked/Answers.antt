use Rattle.std.proofs.Common.{arith, add-one}
use Rattle.xt_questions.specs.View.{read_of}
use Rattle.xt_questions.proofs.Standing.{asked_more, few}
use Rattle.xt_questions.proofs.hold.count_asked.Goals as goal

pub loop-read-preserved : goal.loop-read-preserved
loop-read-preserved c =
    let more = asked_more read_of c.args.reads.now c.loop-read.read-index c.read-item.result (omega arith) c.read-item.is in
    let one = few (read_of c.read-item.result) in
    record {
      count = rw add-one (omega (arith, more, c.loop-read.invariant.count, c.asked_by-count.ensures));
      few = omega (arith, one, c.asked_by-count.ensures, c.loop-read.invariant.few);
    }
