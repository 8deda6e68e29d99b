use Rattle.std.proofs.Common.{◌≡◌, ◌<◌, ◌-◌, suc, length, sym, ap, ◌∙◌, arith}
use Rattle.spec_document.specs.Forest.{size}
use Rattle.spec_edit.specs.Splice.{first_siblings}
use Rattle.xt_tree.specs.Keys.{key_by, last_key}
use Rattle.xt_tree.specs.View.{forest_of, tree_of}
use Rattle.xt_tree.proofs.Bools.{unlike}
use Rattle.xt_tree.proofs.Indices.{last-whole, last_sibling, smaller_sibling}
use Rattle.xt_tree.proofs.Site.{children-is}
use Rattle.xt_tree.proofs.room.last_in.Goals as goal
use Rattle.xt_tree.proofs.room.last_in.Goals.{After-sibling-current}

some : (c : After-sibling-current) → length c.as_slice-siblings.result.now - 1 < length c.as_slice-siblings.result.now
some c = let apart = unlike (length c.as_slice-siblings.result.now) 0 (sym c.if-is_empty.ensures) in omega arith

pub down-smaller : goal.down-smaller
down-smaller c =
    let xs = c.as_slice-siblings.result.now in
    let h = some (goal.at.down-smaller c).After-sibling-current in
    let less = smaller_sibling (length xs - 1) xs c.sibling-current.result.now h c.sibling-current.ensures in
    let whole = ap size (children-is c.down.current.now xs c.as_slice-siblings.ensures.value) in
    omega (arith, less, whole)

pub down-preserved : goal.down-preserved
down-preserved c =
    let key = key_by c.args.keys.now in
    let xs = c.as_slice-siblings.result.now in
    let h = some (goal.at.down-preserved c).After-sibling-current in
    let low = key (tree_of c.down.current.now).number in
    let same : suc (length xs - 1) ≡ length xs = omega arith in
    sym (last_sibling key (length xs - 1) low xs c.sibling-current.result.now h c.sibling-current.ensures)
    ∙ ap (λ n. last_key key low (first_siblings n (forest_of xs))) same ∙ last-whole key low xs
    ∙ ap (last_key key low) (sym (children-is c.down.current.now xs c.as_slice-siblings.ensures.value)) ∙ c.down.invariant
