use Rattle.std.proofs.Common.{◌≡◌, ◌+◌, ◌∷◌, [], ◌++◌, ◌∙◌, sym, ap, arith, append_assoc, drop}
use Rattle.std.specs.Prelude.{map}
use Rattle.std.proofs.lemmas.List.{at_drop_more}
use Rattle.spec_document.specs.Forest.{labels}
use Rattle.xt_tree.specs.View.{forest_of, tree_of, itself}
use Rattle.xp_axes.proofs.Picked.{map_append}
use Rattle.xp_axes.proofs.along.+take_all.Goals as goal

pub loop-sibling-preserved : goal.loop-sibling-preserved
loop-sibling-preserved t c =
    let found = c.loop-sibling.found.items in
    let at = sym (at_drop_more (λ rest. found ++ map itself (labels (forest_of rest))) c.args.siblings.now c.loop-sibling.sibling-index
    c.sibling-item.result (omega arith)) ∙ c.loop-sibling.invariant in
    let here = rw (← c.sibling-item.is) at at in
    let rest = labels (forest_of (drop (c.loop-sibling.sibling-index + 1) c.args.siblings.now)) in
    let child = tree_of c.sibling-item.result.value in
    let node : c.of.result ≡ itself child.number = c.of.ensures ∙ ap itself (c.id.ensures ∙ ap (λ n. (tree_of n).number) c.deref.ensures) in
    let inside : forest_of c.children.result.now ≡ child.children =
    c.children.ensures.forest ∙ ap (λ n. (tree_of n).children) c.deref-in-loop-sibling.ensures in
    let own = map itself (labels child.children) in
    ap (λ xs. xs ++ map itself rest)
    (c.in_ok-take_all.ensures ∙ ap (λ f. c.push.new.self.items ++ map itself (labels f)) inside
    ∙ ap (λ xs. xs ++ own) (c.in_ok-push.ensures.items ∙ ap (λ n. found ++ n ∷ []) node))
    ∙ append_assoc (found ++ itself child.number ∷ []) own (map itself rest)
    ∙ append_assoc found (itself child.number ∷ []) (own ++ map itself rest)
    ∙ ap (λ xs. found ++ itself child.number ∷ xs) (sym (map_append itself (labels child.children) rest)) ∙ here
