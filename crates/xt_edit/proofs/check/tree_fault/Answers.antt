use Rattle.std.proofs.Common.{◌≤◌, ap, ◌∙◌, arith}
use Rattle.std.proofs.lemmas.Bool.{leb-true, le-leb}
use Rattle.std.specs.Prelude.{nat_le}
use Rattle.spec_document.specs.Fault.{least, fault_if}
use Rattle.xt_tree.specs.View.{content_of, forest_of}
use Rattle.xt_build.specs.Least.{merged}
use Rattle.xt_edit.specs.Finding.{at_no_line}
use Rattle.xt_edit.proofs.Faults.{tree_told}
use Rattle.xt_edit.proofs.check.tree_fault.Goals as goal

pub returns : goal.returns
returns c =
    let content = content_of c.args.content.now in
    let children = forest_of c.args.children.now in
    let left = c.saturating_sub-left.result in
    let count = c.in_ok-count.count in
    tree_told c.args.around.now c.args.depth c.args.first (nat_le left count) content children c.check_tree.new.found _ c.in_ok-count.ensures.faults
    (λ k. let enough : left ≤ count = leb-true left count k in omega (arith, c.in_ok-count.ensures.count))
    (λ k. le-leb left count (omega (arith, c.in_ok-count.ensures.count)))
    (c.or_too_many.ensures ∙ ap (λ o. merged (at_no_line o) (least (fault_if (nat_le left count) 12 0))) c.code_of.ensures)
