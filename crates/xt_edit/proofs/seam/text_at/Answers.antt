use Rattle.std.proofs.Common.{sym, ap, ◌∙◌, arith}
use Rattle.xt_tree.specs.View.{tree_of}
use Rattle.xt_edit.proofs.Seams.{text-there, text-past}
use Rattle.xt_edit.proofs.seam.text_at.Goals as goal

pub returns-then-index-siblings-clause-text : goal.returns-then-index-siblings-clause-text
returns-then-index-siblings-clause-text c = sym (text-past c.args.siblings.now c.args.index (omega arith))

pub returns-then-is_text-clause-text : goal.returns-then-is_text-clause-text
returns-then-is_text-clause-text c =
    sym (text-there c.args.siblings.now c.args.index _ _ _ (omega arith) c.index-siblings-index.is
    (c.content.ensures ∙ ap (λ n. (tree_of n).content) c.deref.ensures) c.if-is_text.ensures)

pub returns-else-is_text-clause-text : goal.returns-else-is_text-clause-text
returns-else-is_text-clause-text c =
    sym (text-there c.args.siblings.now c.args.index _ _ _ (omega arith) c.index-siblings-index.is
    (c.content.ensures ∙ ap (λ n. (tree_of n).content) c.deref.ensures) c.if-is_text.ensures)
