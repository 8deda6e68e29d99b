use Rattle.std.proofs.Common.{map, take}
use Rattle.xt_syntax.specs.SheetView.{rule_of}
use Rattle.xt_touch.specs.Asked.{AreAllAsking}
use Rattle.xt_touch.proofs.modes.Modes.asking.Given as goal

abbrev pub invariant-loop-rule : goal.invariant-loop-rule
invariant-loop-rule l = AreAllAsking l.list.items (map rule_of (take l.rule-index l.rules))
