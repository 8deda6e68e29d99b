use Rattle.std.proofs.Common.{◌∙◌, ◌-◌, ◌+◌, ap, arith}
use Rattle.spec_result.specs.Shape.{is_free}
use Rattle.xt_result.proofs.Names.{if_ok_is}
use Rattle.xt_result.proofs.Openings.{free_now, free_later, free_last}
use Rattle.xt_result.proofs.declare.new_prefix.Goals as goal

pub returns-then-is_free : goal.returns-then-is_free
returns-then-is_free c =
    let most = c.in_ok-most.most in
    let tried = c.loop-tried.tried in
    let made = c.in_ok-prefix.ensures {u = tt} in
    made ∙ free_now c.args.scope.now c.args.uri.now (most - tried) tried c.is_free.result (omega (arith, c.loop-tried-test.true))
    (c.is_free.ensures ∙ ap (λ p. is_free c.args.scope.now p c.args.uri.now) made) c.if-is_free.true
    ∙ c.loop-tried.invariant

pub loop-tried-preserved : goal.loop-tried-preserved
loop-tried-preserved c =
    let most = c.in_ok-most.most in
    let tried = c.loop-tried.tried in
    let made = c.in_ok-prefix.ensures {u = tt} in
    free_later c.args.scope.now c.args.uri.now (most - tried) (most - (tried + 1)) tried c.is_free.result (omega (arith, c.loop-tried-test.true))
    (c.is_free.ensures ∙ ap (λ p. is_free c.args.scope.now p c.args.uri.now) made) c.if-is_free.false
    ∙ c.loop-tried.invariant

pub returns : goal.returns
returns c =
    if_ok_is _ _ _
    (free_last c.args.scope.now c.args.uri.now c.in_ok-most.most c.loop-tried.tried (omega (arith, c.loop-tried-test.false, c.loop-tried.auto.tried-end))
    ∙ c.loop-tried.invariant)
    c.made_prefix-2.ensures
