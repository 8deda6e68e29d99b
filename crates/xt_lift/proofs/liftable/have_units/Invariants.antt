use Rattle.std.proofs.Common.{◌≡◌, drop, map}
use Rattle.std.specs.Prelude.{nat_lt}
use Rattle.std.specs.List.{list_all}
use Rattle.xt_syntax.specs.SheetView.{rule_of}
use Rattle.xt_lift.proofs.liftable.have_units.Given as goal

abbrev pub invariant-loop-rule : goal.invariant-loop-rule
invariant-loop-rule l = list_all (λ rule. nat_lt rule.unit l.count) (map rule_of (drop l.rule-index l.rules)) ≡ list_all (λ rule. nat_lt rule.unit l.count) (map rule_of l.rules)
