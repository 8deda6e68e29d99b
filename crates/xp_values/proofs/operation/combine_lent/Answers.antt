use Rattle.std.proofs.Common.{sym, ◌∙◌}
use Rattle.xt_tree.specs.ValueView.{value_of}
use Rattle.xp_values.proofs.Operators.{comparison_so, arithmetic_so}
use Rattle.xp_values.proofs.operation.combine_lent.Goals as goal

pub returns-then-is_comparison-clause-runs : goal.returns-then-is_comparison-clause-runs
returns-then-is_comparison-clause-runs g c other supply depth =
    comparison_so c.args.operator (value_of c.args.left.now) (value_of c.args.right.now) (sym c.is_comparison.ensures ∙ c.if-is_comparison.true) (c.comparison.ensures.runs supply depth)

pub returns-else-is_comparison-clause-runs : goal.returns-else-is_comparison-clause-runs
returns-else-is_comparison-clause-runs g c other supply depth =
    arithmetic_so c.args.operator (value_of c.args.left.now) (value_of c.args.right.now) (sym c.is_comparison.ensures ∙ c.if-is_comparison.false) c.in_default.not-Or c.in_default.not-And other
    (c.arithmetic.ensures.runs supply depth)
