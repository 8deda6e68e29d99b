use Rattle.std.proofs.Common.{arith}
use Rattle.xt_syntax.specs.View.{expr_of, step_of, link_of}
use Rattle.spec_expression.specs.Syntax.{exprs, links, steps}
use Rattle.xt_syntax.proofs.Lists.{same_exprs, same_links, same_steps, different_length, different_at}
use Rattle.xt_syntax.proofs.expr.+same.Goals as goal

pub same_exprs-returns-then-list-others : goal.same_exprs-returns-then-list-others
same_exprs-returns-then-list-others t c = different_length expr_of exprs same_exprs c.args.list.now c.args.others.now c.if-list-others.true

pub same_exprs-returns-then-not-same : goal.same_exprs-returns-then-not-same
same_exprs-returns-then-not-same t c =
    different_at expr_of exprs same_exprs c.args.list.now c.args.others.now c.loop-index.index c.index-list-index.result c.index-others-index.result
    (omega arith) (omega arith) c.index-list-index.is c.index-others-index.is c.same.result c.if-not-same.true c.same.ensures.1

pub same_links-returns-then-list-others : goal.same_links-returns-then-list-others
same_links-returns-then-list-others t c = different_length link_of links same_links c.args.list.now c.args.others.now c.if-list-others.true

pub same_links-returns-then-not-same : goal.same_links-returns-then-not-same
same_links-returns-then-not-same t c =
    different_at link_of links same_links c.args.list.now c.args.others.now c.loop-index.index c.index-list-index.result c.index-others-index.result
    (omega arith) (omega arith) c.index-list-index.is c.index-others-index.is c.same.result c.if-not-same.true c.same.ensures.1

pub same_steps-returns-then-list-others : goal.same_steps-returns-then-list-others
same_steps-returns-then-list-others t c = different_length step_of steps same_steps c.args.list.now c.args.others.now c.if-list-others.true

pub same_steps-returns-then-not-same : goal.same_steps-returns-then-not-same
same_steps-returns-then-not-same t c =
    different_at step_of steps same_steps c.args.list.now c.args.others.now c.loop-index.index c.index-list-index.result c.index-others-index.result
    (omega arith) (omega arith) c.index-list-index.is c.index-others-index.is c.same.result c.if-not-same.true c.same.ensures.1
