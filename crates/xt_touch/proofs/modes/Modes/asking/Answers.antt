use Rattle.std.proofs.Common.{map, take, arith}
use Rattle.xt_syntax.specs.SheetView.{rule_of}
use Rattle.xt_touch.proofs.Asking.{next_rule}
use Rattle.xt_touch.proofs.modes.Modes.asking.Goals as goal

pub loop-rule-preserved : goal.loop-rule-preserved
loop-rule-preserved c =
    next_rule _ c.args.rules.now c.loop-rule.rule-index c.rule-item.result (omega arith) c.rule-item.is
    (c.in_ok-push_if_asking.ensures (map rule_of (take c.loop-rule.rule-index c.args.rules.now)) c.loop-rule.invariant)
