use Rattle.std.proofs.Common.{◌≡◌, ◌+◌, ◌++◌, ◌∷◌, ◌∙◌, sym, ap, subst, arith, map, drop}
use Rattle.std.proofs.lemmas.List.{at_drop_more}
use mathlib.Core.Logic.{inl, inr}
use Rattle.spec_document.specs.declared.event.Event.TheVariants as event
use Rattle.spec_document.specs.Forest.{attribute_event, lines_of}
use Rattle.spec_document.specs.Pyx.{line_of}
use Rattle.xt_tree.specs.View.{content_of, written_of, tree_of, forest, forest_of}
use Rattle.xt_build.specs.Leaf.{leaf_events}
use Rattle.xt_build.proofs.Writing.{element_step, leaf_step, IsLeaf}
use Rattle.xt_build.proofs.write.+push_lines.Goals as goal
use Rattle.xt_build.proofs.write.+push_lines.Goals.{in-Element+in_ok-push_start-in-Element+in_ok-push_lines-in-Element+in_ok-push_end-in-Element}
use Rattle.xt_build.proofs.write.+push_lines.Goals.{in-Text+in_ok-push_leaf-in-Text}

pub loop-sibling-preserved : goal.loop-sibling-preserved
loop-sibling-preserved t c =
    let before = c.loop-sibling.lines.items in
    let at = sym (at_drop_more (λ rest. before ++ lines_of (forest_of rest)) c.args.siblings.now c.loop-sibling.sibling-index c.sibling-item.result
    (omega arith)) ∙ c.loop-sibling.invariant in
    let here = rw (← c.sibling-item.is) at at in
    let rest = drop (c.loop-sibling.sibling-index + 1) c.args.siblings.now in
    let node = c.sibling-item.result.value in
    let number = (tree_of node).number in
    let children = (tree_of node).children in
    let own = c.content.ensures ∙ ap (λ n. (tree_of n).content) c.deref.ensures in
    elim c.match-content.branch [
      | in-Element+in_ok-push_start-in-Element+in_ok-push_lines-in-Element+in_ok-push_end-in-Element w ↦
          let name = w.in-Element.name in
          let attributes = map written_of w.in-Element.attributes.items in
          let tree : tree_of node ≡ record { number = number; content = content_of c.content.result.now; children = children }
          = ap (λ k. record { number = number; content = k; children = children }) (sym own) in
          let tree = tree ∙ ap (λ k. record { number = number; content = content_of k; children = children }) w.in-Element.is in
          ap (λ ls. ls.items ++ lines_of (forest_of rest)) w.lines-is
          ∙ element_step before w.push_start.new.lines.items w.push_lines.new.lines.items w.push_end.new.lines.items number name attributes children
          (forest_of rest)
          (w.in_ok-push_start-in-Element.ensures
          ∙ ap (λ a. before ++ line_of (event.Start name) ∷ map line_of (map attribute_event (map written_of a))) w.as_slice.ensures.value)
          (w.in_ok-push_lines-in-Element.ensures
          ∙ ap (λ f. w.push_start.new.lines.items ++ lines_of f)
          (w.children.ensures.forest ∙ ap (λ n. (tree_of n).children) w.deref-in-Element.ensures))
          w.in_ok-push_end-in-Element.ensures
          ∙ ap (λ t. before ++ lines_of (forest (t ∷ map (λ x. tree_of x.value) rest))) (sym tree) ∙ here
      | in-Text+in_ok-push_leaf-in-Text w ↦
          let leaf : IsLeaf c.content.result.now = elim w.in-Text.is [
            | inl e ↦ subst IsLeaf (sym e.1) tt
            | inr more ↦ elim more [
              | inl e ↦ subst IsLeaf (sym e.1) tt
              | inr e ↦ subst IsLeaf (sym e.2) tt
            ]
          ] in
          let tree : record { number = number; content = content_of c.content.result.now; children = children } ≡ tree_of node
          = ap (λ k. record { number = number; content = k; children = children }) own in
          ap (λ ls. ls.items ++ lines_of (forest_of rest)) w.lines-is
          ∙ leaf_step before w.push_leaf.new.lines.items number c.content.result.now children (forest_of rest) leaf
          (w.in_ok-push_leaf-in-Text.ensures
          ∙ ap (λ k. before ++ map line_of (leaf_events k))
          (w.content-in-Text.ensures ∙ ap (λ n. (tree_of n).content) w.deref-in-Text.ensures ∙ sym own))
          ∙ ap (λ t. before ++ lines_of (forest (t ∷ map (λ x. tree_of x.value) rest))) tree ∙ here
    ]
