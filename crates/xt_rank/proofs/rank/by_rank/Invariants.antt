use Rattle.std.proofs.Common.{◌≡◌, List, ◌++◌, length, map}
use Rattle.spec_compile.specs.Sheet as spec
use Rattle.xt_syntax.specs.SheetView.{rule_of}
use Rattle.xt_syntax.specs.declared.rule.Rule.{Rule}
use Rattle.xt_rank.specs.Rank.{AreRanked, ranked_rules}
use Rattle.xt_rank.proofs.rank.by_rank.Given as goal

abbrev pub invariant-loop-rule : goal.invariant-loop-rule
invariant-loop-rule l =
    (later : List Rule) × (l.left.items ++ later ≡ l.fn.rules.items) × (ranked_rules l.by_rank.entries ≡ spec.in_rank (map rule_of later))
    × AreRanked (length l.left.items) l.by_rank.entries

abbrev pub decreases-loop-rule : goal.decreases-loop-rule
decreases-loop-rule l = length l.left.items
