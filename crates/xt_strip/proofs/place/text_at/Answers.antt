use Rattle.std.proofs.Common.{sym, ap, ◌∙◌, arith}
use Rattle.xt_edit.specs.Seam.{one_of}
use Rattle.xt_edit.proofs.Seams.{text-past}
use Rattle.xt_tree.specs.View.{tree_of}
use Rattle.xt_strip.proofs.Places.{one_there}
use Rattle.xt_strip.proofs.place.text_at.Goals as goal

pub returns-then-index-siblings-clause-is : goal.returns-then-index-siblings-clause-is
returns-then-index-siblings-clause-is c = ap one_of (sym (text-past c.args.siblings.now c.args.index (omega arith)))

pub returns-clause-is : goal.returns-clause-is
returns-clause-is c =
    c.one_text.ensures.is
    ∙ one_there c.args.siblings.now c.args.index _ _ (omega arith) c.index-siblings-index.is
    (c.content.ensures ∙ ap (λ n. (tree_of n).content) c.deref.ensures)
