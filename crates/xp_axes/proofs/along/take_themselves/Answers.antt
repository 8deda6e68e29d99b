use Rattle.std.proofs.Common.{◌≡◌, ◌+◌, ◌∷◌, [], ◌++◌, ◌∙◌, sym, ap, arith, append_assoc, drop}
use Rattle.std.proofs.lemmas.List.{at_drop_more}
use Rattle.xt_tree.specs.View.{forest_of, tree_of, itself}
use Rattle.xp_axes.specs.Along.{themselves}
use Rattle.xp_axes.proofs.along.take_themselves.Goals as goal

pub loop-sibling-preserved : goal.loop-sibling-preserved
loop-sibling-preserved c =
    let found = c.loop-sibling.found.items in
    let at = sym (at_drop_more (λ rest. found ++ themselves (forest_of rest)) c.args.siblings.now c.loop-sibling.sibling-index c.sibling-item.result
    (omega arith)) ∙ c.loop-sibling.invariant in
    let here = rw (← c.sibling-item.is) at at in
    let rest = themselves (forest_of (drop (c.loop-sibling.sibling-index + 1) c.args.siblings.now)) in
    let node : c.of.result ≡ itself (tree_of c.sibling-item.result.value).number =
    c.of.ensures ∙ ap itself (c.id.ensures ∙ ap (λ n. (tree_of n).number) c.deref.ensures) in
    ap (λ xs. xs ++ rest) c.in_ok-push.ensures.items ∙ append_assoc found (c.of.result ∷ []) rest ∙ ap (λ n. found ++ n ∷ rest) node ∙ here
