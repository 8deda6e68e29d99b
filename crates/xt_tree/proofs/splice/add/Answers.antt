use Rattle.std.proofs.Common.{◌+◌, drop, sym, ap, ◌∙◌, arith}
use Rattle.std.proofs.lemmas.List.{at_drop_more, at_drop_all}
use Rattle.spec_document.specs.Forest as spec
use Rattle.spec_document.specs.Forest.{followed}
use Rattle.xt_tree.specs.View.{forest_of, tree_of}
use Rattle.xt_tree.proofs.Indices.{one_more, followed-Empty}
use Rattle.xt_tree.proofs.splice.add.Goals as goal

pub loop-sibling-preserved : goal.loop-sibling-preserved
loop-sibling-preserved c =
    let xs = c.args.siblings.now in
    let list = c.loop-sibling.list.items in
    let rest = forest_of (drop (c.loop-sibling.sibling-index + 1) xs) in
    let at = sym (at_drop_more (λ rest. followed (forest_of list) (forest_of rest)) xs c.loop-sibling.sibling-index c.sibling-item.result (omega arith))
    ∙ c.loop-sibling.invariant in
    let here = rw (← c.sibling-item.is) at at in
    ap (λ ys. followed (forest_of ys) rest) c.in_ok-push.ensures.items ∙ one_more list c.in_ok-shared.shared rest
    ∙ ap (λ v. followed (forest_of list) (spec.Node (tree_of v).number (tree_of v).content (tree_of v).children rest)) c.in_ok-shared.ensures.cases ∙ here

pub returns : goal.returns
returns c =
    let list = forest_of c.loop-sibling.list.items in
    let at = sym (at_drop_all (λ rest. followed list (forest_of rest)) c.args.siblings.now c.loop-sibling.sibling-index (omega arith))
    ∙ c.loop-sibling.invariant in
    sym (followed-Empty list) ∙ at
