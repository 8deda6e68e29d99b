use Rattle.std.proofs.Common.{◌∙◌, sym, ap, map, true, false}
use Rattle.std.specs.Prelude.{if◌then◌else◌}
use Rattle.spec_meaning.specs.Compare.{operands, set_as_boolean}
use Rattle.xt_tree.specs.ValueView.{value_of}
use Rattle.xp_values.specs.OperandView.{operand_of}
use Rattle.xp_values.proofs.Comparing.{compared_so}
use Rattle.xp_values.proofs.comparison.compare.Goals as goal

pub returns-then-goes_by_texts-clause-runs : goal.returns-then-goes_by_texts-clause-runs
returns-then-goes_by_texts-clause-runs g c supply depth =
    let left = value_of c.args.left.now in
    let right = value_of c.args.right.now in
    let lefts = ap (map operand_of) c.as_slice.ensures.value ∙ c.in_ok-lefts.ensures
    ∙ ap (λ b. operands (if b then set_as_boolean left else left)) c.is_boolean.ensures in
    let rights = ap (map operand_of) c.as_slice-then-goes_by_texts.ensures.value ∙ c.in_ok-rights.ensures
    ∙ ap (λ b. operands (if b then set_as_boolean right else right)) c.is_boolean-2.ensures in
    compared_so c.args.operator left right true _ _ (sym c.goes_by_booleans.ensures ∙ c.if-goes_by_booleans.false)
    (sym c.goes_by_texts.ensures ∙ c.if-goes_by_texts.true)
    lefts rights (c.some_pair.ensures.runs supply depth)

pub returns-clause-runs : goal.returns-clause-runs
returns-clause-runs g c supply depth =
    let left = value_of c.args.left.now in
    let right = value_of c.args.right.now in
    let lefts = ap (map operand_of) c.as_slice-else-goes_by_texts.ensures.value ∙ c.in_ok-lefts.ensures
    ∙ ap (λ b. operands (if b then set_as_boolean left else left)) c.is_boolean.ensures in
    let rights = ap (map operand_of) c.as_slice-else-goes_by_texts-2.ensures.value ∙ c.in_ok-rights.ensures
    ∙ ap (λ b. operands (if b then set_as_boolean right else right)) c.is_boolean-2.ensures in
    compared_so c.args.operator left right false _ _ (sym c.goes_by_booleans.ensures ∙ c.if-goes_by_booleans.false)
    (sym c.goes_by_texts.ensures ∙ c.if-goes_by_texts.false)
    lefts rights (c.some_pair-else-goes_by_texts.ensures.runs supply depth)
