use Rattle.std.proofs.Common.{◌≡◌, map, drop}
use Rattle.std.specs.List.{list_any}
use Rattle.xt_syntax.specs.SheetView.{space_rule_of}
use Rattle.xt_strip.proofs.rule.any_strips.Given as goal

abbrev pub invariant-loop-rule : goal.invariant-loop-rule
invariant-loop-rule l =
    list_any (λ rule. rule.strips) (map space_rule_of (drop l.rule-index l.rules)) ≡ list_any (λ rule. rule.strips) (map space_rule_of l.rules)
