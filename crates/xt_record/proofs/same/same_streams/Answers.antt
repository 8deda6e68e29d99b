use Rattle.std.proofs.Common.{arith}
use Rattle.xt_record.proofs.Streams.{not_same}
use Rattle.xt_record.proofs.same.same_streams.Goals as goal

pub returns-then-not-branch-clause-whole : goal.returns-then-not-branch-clause-whole
returns-then-not-branch-clause-whole c =
    not_same c.args.parts.now c.args.others.now c.loop-index.index c.index-parts-index.result c.index-others-index.result c.in_ok-same_stream.field-0
    (omega arith) (omega arith) c.index-parts-index.is c.index-others-index.is c.if-not-branch.true c.in_ok-same_stream.ensures.whole
