-- Siblings of which one is another.
use Rattle.std.proofs.Common.{◌≡◌, ℕ, suc, ◌+◌, ◌-◌, ◌<◌, ◌≤◌, ◌==◌, true, false, cond, List, [], ◌∷◌, length, set, Some, None, refl, sym, ap, ◌∙◌, arith}
use Rattle.std.proofs.Common.{eqb-true, eq-eqb, lt_of_not-le}
use Rattle.std.specs.List.{AllZip}
use Rattle.std.specs.declared.rc.Rc.{Rc}
use Rattle.std.specs.declared.alloc.Global.{Global}
use Rattle.spec_document.specs.Forest as spec
use Rattle.spec_edit.specs.Splice.{below_changed, content_replaced}
use Rattle.xt_tree.specs.declared.node.Node.{Node}
use Rattle.xt_tree.specs.Remade.{with_tree}
use Rattle.xt_tree.specs.View.{Tree, tree_of, forest_of, tree_at}
use Rattle.xt_tree.proofs.Distinct.{some_same}
use Rattle.xt_tree.proofs.Views.{tree_at-zero, tree_at-past, true_false}

abbrev Siblings : Type 0
Siblings = List (Rc Node Global)

-- pointers to the same nodes
pub same_nodes : (xs ys : Siblings) → AllZip (λ x y. y.value ≡ x.value) xs ys → forest_of ys ≡ forest_of xs
same_nodes [] [] h = refl
same_nodes [] (y ∷ ys) h = absurd h
same_nodes (x ∷ xs) [] h = absurd h
same_nodes (x ∷ xs) (y ∷ ys) h =
    λ i. spec.Node (tree_of (h.0 i)).number (tree_of (h.0 i)).content (tree_of (h.0 i)).children (same_nodes xs ys h.1 i)

-- one put in place of another
pub put : (xs : Siblings) (position : ℕ) (x : Rc Node Global) → 0 < position → position ≤ length xs
    → forest_of (set xs (position - 1) x) ≡ with_tree position (tree_of x.value) (forest_of xs)
put [] position x h k = absurd (omega arith)
put (y ∷ ys) position x h k =
    let t = tree_of x.value in
    let own = tree_of y.value in
    elim (position == 1) as (λ b. (position == 1) ≡ b → forest_of (set (y ∷ ys) (position - 1) x)
    ≡ cond b (spec.Node t.number t.content t.children (forest_of ys))
    (spec.Node own.number own.content own.children (with_tree (position - 1) t (forest_of ys)))) [
      | true ↦ λ e. let first : position - 1 ≡ 0 = let is : position ≡ 1 = eqb-true position 1 e in omega arith in
          ap (λ n. forest_of (set (y ∷ ys) n x)) first
      | false ↦ λ e.
          let apart : position ≡ 1 → ⊥ = λ is. true_false (sym (eq-eqb position 1 is) ∙ e) in
          let later : position - 1 ≡ suc (position - 1 - 1) = omega arith in
          ap (λ n. forest_of (set (y ∷ ys) n x)) later
          ∙ ap (spec.Node own.number own.content own.children) (put ys (position - 1) x (omega arith) (omega arith))
    ] refl

some_apart : {A : Type 0} (x : A) → None ≡ Some x → ⊥
some_apart x e = cc

-- a position at which there is a node
pub within_siblings : (xs : Siblings) (position : ℕ) (t : Tree) → Some t ≡ tree_at (forest_of xs) position → (0 < position) × (position ≤ length xs)
within_siblings xs position t e = (
  lt_of_not-le (λ h. let zero : position ≡ 0 = omega arith in
      some_apart t (sym (ap (tree_at (forest_of xs)) zero ∙ tree_at-zero (forest_of xs)) ∙ sym e)),
  let within = lt_of_not-le (λ (h : length xs + 1 ≤ position). some_apart t (sym (tree_at-past xs position (omega arith)) ∙ sym e)) in omega (arith, within),
)

abbrev pub with_own : Tree → spec.Content → Tree
with_own t content = record { number = t.number; content = content; children = t.children }

abbrev pub with_below : Tree → spec.Forest ℕ → Tree
with_below t children = record { number = t.number; content = t.content; children = children }

pub content_put : (f : spec.Forest ℕ) (position : ℕ) (t : Tree) (content : spec.Content) → Some t ≡ tree_at f position
    → with_tree position (with_own t content) f ≡ content_replaced position content f
content_put spec.Empty position t content e = refl
content_put (spec.Node l c f g) position t content e =
    elim (position == 1) as (λ b. Some t ≡ cond b (Some (record { number = l; content = c; children = f })) (tree_at g (position - 1))
    → cond b (spec.Node t.number content t.children g) (spec.Node l c f (with_tree (position - 1) (with_own t content) g))
    ≡ cond b (spec.Node l content f g) (spec.Node l c f (content_replaced (position - 1) content g))) [
      | true ↦ λ h. let is = some_same t (record { number = l; content = c; children = f }) h in
          λ i. spec.Node (is i).number content (is i).children g
      | false ↦ λ h. ap (spec.Node l c f) (content_put g (position - 1) t content h)
    ] e

pub below_put : (change : spec.Forest ℕ → spec.Forest ℕ) (f : spec.Forest ℕ) (position : ℕ) (t : Tree) → Some t ≡ tree_at f position
    → with_tree position (with_below t (change t.children)) f ≡ below_changed change position f
below_put change spec.Empty position t e = refl
below_put change (spec.Node l c f g) position t e =
    elim (position == 1) as (λ b. Some t ≡ cond b (Some (record { number = l; content = c; children = f })) (tree_at g (position - 1))
    → cond b (spec.Node t.number t.content (change t.children) g) (spec.Node l c f (with_tree (position - 1) (with_below t (change t.children)) g))
    ≡ cond b (spec.Node l c (change f) g) (spec.Node l c f (below_changed change (position - 1) g))) [
      | true ↦ λ h. let is = some_same t (record { number = l; content = c; children = f }) h in
          λ i. spec.Node (is i).number (is i).content (change (is i).children) g
      | false ↦ λ h. ap (spec.Node l c f) (below_put change g (position - 1) t h)
    ] e

-- where there is none
pub content_nowhere : (f : spec.Forest ℕ) (position : ℕ) (content : spec.Content) → None ≡ tree_at f position → content_replaced position content f ≡ f
content_nowhere spec.Empty position content e = refl
content_nowhere (spec.Node l c f g) position content e =
    elim (position == 1) as (λ b. None ≡ cond b (Some (record { number = l; content = c; children = f })) (tree_at g (position - 1))
    → cond b (spec.Node l content f g) (spec.Node l c f (content_replaced (position - 1) content g)) ≡ spec.Node l c f g) [
      | true ↦ λ h. absurd (some_apart _ h)
      | false ↦ λ h. ap (spec.Node l c f) (content_nowhere g (position - 1) content h)
    ] e

pub below_nowhere : (change : spec.Forest ℕ → spec.Forest ℕ) (f : spec.Forest ℕ) (position : ℕ) → None ≡ tree_at f position
    → below_changed change position f ≡ f
below_nowhere change spec.Empty position e = refl
below_nowhere change (spec.Node l c f g) position e =
    elim (position == 1) as (λ b. None ≡ cond b (Some (record { number = l; content = c; children = f })) (tree_at g (position - 1))
    → cond b (spec.Node l c (change f) g) (spec.Node l c f (below_changed change (position - 1) g)) ≡ spec.Node l c f g) [
      | true ↦ λ h. absurd (some_apart _ h)
      | false ↦ λ h. ap (spec.Node l c f) (below_nowhere change g (position - 1) h)
    ] e
