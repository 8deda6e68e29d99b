use Rattle.std.proofs.Common.{rules, ℕ, ◌≡◌, ◌+◌, ◌<◌, drop, sym, ap, ◌∙◌, arith}
use Rattle.std.proofs.lemmas.List.{at_drop_more}
use Rattle.xt_tree.specs.declared.node.Node.{the_lemmas}
use Rattle.spec_document.specs.Forest.{size}
use Rattle.spec_document.specs.Numbering.{number_limit}
use Rattle.xt_tree.specs.View.{forest_of, tree_of}
use Rattle.xt_tree.proofs.Site.{children-is}
use Rattle.xt_tree.proofs.room.+count.Goals as goal
use Rattle.xt_tree.proofs.room.+count.Goals.{After-as_slice}

-- what is counted, the next sibling with what is below it, and the others
whole : (t : ℕ) (c : After-as_slice t)
    → c.loop-sibling.total + (1 + size (forest_of c.as_slice.result.now) + size (forest_of (drop (c.loop-sibling.sibling-index + 1) c.args.siblings.now)))
    ≡ size (forest_of c.args.siblings.now)
whole t c =
    let xs = c.args.siblings.now in
    let rest = size (forest_of (drop (c.loop-sibling.sibling-index + 1) xs)) in
    let at = sym (at_drop_more (λ rest. c.loop-sibling.total + size (forest_of rest)) xs c.loop-sibling.sibling-index c.sibling-item.result (omega arith))
    ∙ c.loop-sibling.invariant in
    let here = rw (← c.sibling-item.is) at at in
    let inside = ap (λ n. (tree_of n).children) (sym c.deref.ensures) ∙ children-is c.deref.result.now c.as_slice.result.now c.as_slice.ensures.value in
    ap (λ f. c.loop-sibling.total + (1 + size f + rest)) (sym inside) ∙ here

small : (t : ℕ) (c : After-as_slice t) → size (forest_of c.as_slice.result.now) < number_limit
small t c = let w = whole t c in omega (arith, w, c.requires)

pub count-requires : goal.count-requires
count-requires t c = (search (rules, the_lemmas), small t c)

pub overflow_add-total : goal.overflow_add-total
overflow_add-total t c = let w = whole t (goal.at.overflow_add-total t c).After-as_slice in omega (arith, w, c.requires, c.count.ensures)

pub overflow_add-total-in-loop-sibling : goal.overflow_add-total-in-loop-sibling
overflow_add-total-in-loop-sibling t c =
    let w = whole t (goal.at.overflow_add-total-in-loop-sibling t c).After-as_slice in omega (arith, w, c.requires, c.count.ensures)

pub loop-sibling-preserved : goal.loop-sibling-preserved
loop-sibling-preserved t c = let w = whole t (goal.at.loop-sibling-preserved t c).After-as_slice in omega (arith, w, c.count.ensures)
