use Rattle.std.proofs.Common.{◌≡◌, ◌++◌, map}
use Rattle.spec_compile.specs.Sheet as spec
use Rattle.xt_syntax.specs.SheetView.{rule_of}
use Rattle.xt_rank.proofs.rank.in_rank.Given as goal

abbrev pub invariant-loop-rule : goal.invariant-loop-rule
invariant-loop-rule l = map rule_of l.ranked.items ++ map rule_of l.rule-iterator ≡ spec.in_rank (map rule_of l.fn.rules.items)
