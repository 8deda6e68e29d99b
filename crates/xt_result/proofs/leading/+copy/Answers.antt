use Rattle.std.proofs.Common.{◌+◌, ◌≡◌, ◌∙◌, sym, ap, true, false, drop, map, arith}
use Rattle.std.specs.Prelude.{◌||◌}
use Rattle.std.proofs.lemmas.List.{at_drop_more}
use Rattle.spec_meaning.specs.Stream.{all_followed}
use Rattle.spec_result.specs.Recovery.{has_child, namespaces_of}
use Rattle.xt_tree.specs.StreamView.{single_of}
use Rattle.xt_result.proofs.Streams.{has_child-followed, namespaces_of-child, namespaces_of-more, with_nodes-append}
use Rattle.spec_result.specs.Shape.{with_nodes}
use Rattle.xt_result.specs.View.{opening_of}
use Rattle.xt_result.proofs.leading.+copy.Goals as goal

pub copy_namespaces-returns-then-branch-clause-copied : goal.copy_namespaces-returns-then-branch-clause-copied
copy_namespaces-returns-then-branch-clause-copied t c =
    let list = c.list-item-items.result.now in
    let item = c.item-item.result in
    let known = opening_of c.loop-item.opening in
    let rest = all_followed (map single_of (drop (c.loop-item.item-index + 1) list)) in
    let at = at_drop_more (λ xs. all_followed (map single_of xs)) list c.loop-item.item-index item (omega arith) in
    let here = rw (← c.item-item.is) at at in
    let ended : has_child (single_of item) ≡ true = sym c.in_ok-copy_item.ensures.child ∙ c.if-branch.true in
    c.in_ok-copy_item.ensures.copied ∙ ap (λ ns. with_nodes ns known) (sym (namespaces_of-child (single_of item) rest ended))
    ∙ ap (λ s. with_nodes (namespaces_of s) known) (sym here) ∙ c.loop-item.invariant.copied

pub copy_namespaces-loop-item-preserved : goal.copy_namespaces-loop-item-preserved
copy_namespaces-loop-item-preserved t c =
    let list = c.list-item-items.result.now in
    let item = c.item-item.result in
    let known = opening_of c.loop-item.opening in
    let rest = all_followed (map single_of (drop (c.loop-item.item-index + 1) list)) in
    let at = at_drop_more (λ xs. all_followed (map single_of xs)) list c.loop-item.item-index item (omega arith) in
    let here = rw (← c.item-item.is) at at in
    let none : has_child (single_of item) ≡ false = sym c.in_ok-copy_item.ensures.child ∙ c.if-branch.false in
    record {
      child = ap (λ b. b || has_child rest) (sym none) ∙ sym (ap has_child here ∙ has_child-followed (single_of item) rest) ∙ c.loop-item.invariant.child;
      copied = ap (λ a. with_nodes (namespaces_of rest) a) c.in_ok-copy_item.ensures.copied
          ∙ sym (with_nodes-append (namespaces_of (single_of item)) (namespaces_of rest) known)
          ∙ ap (λ ns. with_nodes ns known) (sym (namespaces_of-more (single_of item) rest none))
          ∙ ap (λ s. with_nodes (namespaces_of s) known) (sym here) ∙ c.loop-item.invariant.copied;
    }

pub copy_namespaces-returns-then-branch-clause-child : goal.copy_namespaces-returns-then-branch-clause-child
copy_namespaces-returns-then-branch-clause-child t c =
    let list = c.list-item-items.result.now in
    let item = c.item-item.result in
    let rest = all_followed (map single_of (drop (c.loop-item.item-index + 1) list)) in
    let at = at_drop_more (λ xs. all_followed (map single_of xs)) list c.loop-item.item-index item (omega arith) in
    let here = rw (← c.item-item.is) at at in
    let ended : has_child (single_of item) ≡ true = sym c.in_ok-copy_item.ensures.child ∙ c.if-branch.true in
    ap (λ b. b || has_child rest) (sym ended) ∙ sym (ap has_child here ∙ has_child-followed (single_of item) rest) ∙ c.loop-item.invariant.child
