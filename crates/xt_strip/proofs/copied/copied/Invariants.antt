use Rattle.std.proofs.Common.{◌≡◌, ◌++◌, map, drop}
use Rattle.xt_syntax.specs.SheetView.{space_rule_of}
use Rattle.xt_strip.proofs.copied.copied.Given as goal

-- what was copied, with what is left, is all
abbrev pub invariant-loop-rule : goal.invariant-loop-rule
invariant-loop-rule l = map space_rule_of l.list.items ++ map space_rule_of (drop l.rule-index l.rules) ≡ map space_rule_of l.rules
