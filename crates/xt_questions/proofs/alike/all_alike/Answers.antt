use Rattle.std.proofs.Common.{arith}
use Rattle.xt_syntax.proofs.Lists.{different_length, different_at}
use Rattle.xt_questions.proofs.alike.all_alike.Goals as goal

pub returns-then-list-others : goal.returns-then-list-others
returns-then-list-others g c = different_length g.T.Alike.seen (λ us. us) (λ us vs e. e) c.args.list.now c.args.others.now c.if-list-others.true

pub returns-then-not-alike : goal.returns-then-not-alike
returns-then-not-alike g c =
    different_at g.T.Alike.seen (λ us. us) (λ us vs e. e) c.args.list.now c.args.others.now c.loop-index.index c.index-list-index.result
    c.index-others-index.result
    (omega arith) (omega arith) c.index-list-index.is c.index-others-index.is c.alike.result c.if-not-alike.true c.alike.ensures.1
