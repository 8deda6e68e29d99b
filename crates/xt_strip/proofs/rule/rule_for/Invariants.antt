use Rattle.std.proofs.Common.{◌≡◌, None, map, drop}
use Rattle.std.specs.Option.{option_map}
use Rattle.spec_seen.specs.Seen as spec
use Rattle.xt_syntax.specs.SheetView.{space_rule_of}
use Rattle.xt_strip.proofs.rule.rule_for.Given as goal

abbrev pub invariant-loop-rule : goal.invariant-loop-rule
invariant-loop-rule l =
    spec.rule_for l.name (option_map (λ rule. space_rule_of rule.now) l.found) (map space_rule_of (drop l.rule-index l.rules))
    ≡ spec.rule_for l.name None (map space_rule_of l.rules)
