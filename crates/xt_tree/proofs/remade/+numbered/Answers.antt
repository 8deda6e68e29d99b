use Rattle.std.proofs.Common.{rules, ℕ, ◌≡◌, ◌+◌, ◌∷◌, List, drop, map, sym, ap, ◌∙◌, arith}
use Rattle.std.proofs.lemmas.List.{at_drop_more, at_drop_all}
use Rattle.xt_tree.specs.declared.node.Node.{the_lemmas}
use Rattle.spec_document.specs.Forest as spec
use Rattle.spec_document.specs.Forest.{followed, numbered, size}
use Rattle.xt_tree.specs.View.{Tree, content_of, forest, forest_of, tree_of}
use Rattle.xt_tree.proofs.Renumbered.{next_numbered, followed-Empty}
use Rattle.xt_tree.proofs.Site.{children-is}
use Rattle.xt_tree.proofs.Views.{view-Node}
use Rattle.xt_tree.proofs.remade.+numbered.Goals as goal
use Rattle.xt_tree.proofs.remade.+numbered.Goals.{After-as_slice}

inside : (t : ℕ) (c : After-as_slice t) → (tree_of c.sibling-item.result.value).children ≡ forest_of c.as_slice.result.now
inside t c =
    ap (λ n. (tree_of n).children) (sym c.deref.ensures)
    ∙ children-is c.deref.result.now c.as_slice.result.now c.as_slice.ensures.value

abbrev more : (t : ℕ) (c : After-as_slice t) → List Tree
more t c = map (λ x. tree_of x.value) (drop (c.loop-sibling.sibling-index + 1) c.args.siblings.now)

count : (t : ℕ) (c : After-as_slice t)
    → c.loop-sibling.next + size (forest (tree_of c.sibling-item.result.value ∷ more t c)) ≡ c.args.next.now + size (forest_of c.args.siblings.now)
count t c =
    let at = sym (at_drop_more (λ rest. c.loop-sibling.next + size (forest_of rest)) c.args.siblings.now c.loop-sibling.sibling-index c.sibling-item.result
    (omega arith)) ∙ c.loop-sibling.invariant.1 in
    rw (← c.sibling-item.is) at at

ahead : (t : ℕ) (c : After-as_slice t)
    → followed c.loop-sibling.nodes (numbered c.loop-sibling.next (forest (tree_of c.sibling-item.result.value ∷ more t c)))
    ≡ numbered c.args.next.now (forest_of c.args.siblings.now)
ahead t c =
    let at = sym (at_drop_more (λ rest. followed c.loop-sibling.nodes (numbered c.loop-sibling.next (forest_of rest))) c.args.siblings.now
    c.loop-sibling.sibling-index c.sibling-item.result (omega arith)) ∙ c.loop-sibling.invariant.0 in
    rw (← c.sibling-item.is) at at

pub numbered-requires : goal.numbered-requires
numbered-requires t c =
    let at = (goal.at.numbered-requires t c).After-as_slice in
    let below = ap size (inside t at) in
    let all = count t at in
    (search (rules, the_lemmas), omega (arith, below, all, c.requires))

pub loop-sibling-preserved : goal.loop-sibling-preserved
loop-sibling-preserved t c =
    let at = (goal.at.loop-sibling-preserved t c).After-as_slice in
    let x = tree_of c.sibling-item.result.value in
    let next = c.loop-sibling.next in
    let nodes = c.loop-sibling.nodes in
    let ends : c.numbered.new.next ≡ next + 1 + size x.children =
    c.in_ok-below.ensures.next ∙ ap (λ f. next + 1 + size f) (sym (inside t at)) in
    let content : content_of c.in_ok-clone.field-0.value ≡ x.content =
    ap content_of c.in_ok-clone.ensures.cases ∙ ap (λ t. t.content) (sym (view-Node c.deref-in-loop-sibling.result.now))
    ∙ ap (λ n. (tree_of n).content) c.deref-in-loop-sibling.ensures in
    let below : c.in_ok-below.below ≡ numbered (next + 1) x.children =
    c.in_ok-below.ensures.nodes ∙ ap (numbered (next + 1)) (sym (inside t at)) in
    let added : c.push_sharing.new.self ≡ followed nodes (spec.Node next x.content (numbered (next + 1) x.children) spec.Empty) =
    c.in_ok-push_sharing.ensures.ok ∙ (λ i. followed nodes (spec.Node next (content i) (below i) spec.Empty)) in
    let all = count t at in (
      next_numbered next c.numbered.new.next x (more t at) nodes c.push_sharing.new.self ends added ∙ ahead t at,
      omega (arith, ends, all),
    )

pub returns-clause-nodes : goal.returns-clause-nodes
returns-clause-nodes t c =
    sym (followed-Empty c.loop-sibling.nodes)
    ∙ sym (at_drop_all (λ rest. followed c.loop-sibling.nodes (numbered c.loop-sibling.next (forest_of rest))) c.args.siblings.now c.loop-sibling.sibling-index
    c.loop-sibling-test.false)
    ∙ c.loop-sibling.invariant.0
