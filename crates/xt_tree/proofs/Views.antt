-- A tree, level by level.
use Rattle.std.proofs.Common.{◌≡◌, ℕ, zero, ◌-◌, ◌<◌, ◌≤◌, ◌≢◌, suc, sym, eq-eqb, length, get_or, arith, true, false, cond, List, []}
use Rattle.std.proofs.Common.{◌∷◌, ◌++◌, ◌==◌, Some, None, ◌∙◌, refl, ap}
use Rattle.std.proofs.lemmas.Simd.{map-map}
use Rattle.std.proofs.lemmas.Bool.{eqb-true}
use Rattle.std.specs.declared.rc.Rc.{Rc}
use Rattle.std.specs.declared.alloc.Global.{Global}
use Rattle.spec_document.specs.Forest as spec
use Rattle.xt_tree.specs.declared.node.Node.{Node, out-Node, fold_out-Node}
use Rattle.xt_tree.specs.Keys.{keys_of}
use Rattle.xt_tree.specs.View.{Tree, tree_of, content_of, forest_of, tree_at, node_step}

pub view-Node : (n : Node)
    → tree_of n ≡ record { number = (out-Node n).id.number; content = content_of (out-Node n).content.value; children = forest_of (out-Node n).children.items }
view-Node n = fold_out-Node Tree node_step n ∙ rw map-map refl

-- the key of a sibling
pub key-at : (key : ℕ → ℕ) (xs : List (Rc Node Global)) (k : ℕ) (d : Rc Node Global) → k < length xs
    → get_or (keys_of key xs) k 0 ≡ key (tree_of (get_or xs k d).value).number
key-at key [] k d h = absurd (omega arith)
key-at key (x ∷ xs) zero d h = refl
key-at key (x ∷ xs) (suc k) d h = key-at key xs k d (omega arith)

pub true_false : true ≡ false → ⊥
true_false e = cc

-- siblings by their positions, from 1
pub tree_at-zero : (f : spec.Forest ℕ) → tree_at f 0 ≡ None
tree_at-zero spec.Empty = refl
tree_at-zero (spec.Node l c f g) = tree_at-zero g

pub tree_at-past : (xs : List (Rc Node Global)) (p : ℕ) → length xs < p → tree_at (forest_of xs) p ≡ None
tree_at-past [] p h = refl
tree_at-past (x ∷ xs) p h =
    elim (p == 1) as (λ b. (p == 1) ≡ b → cond b (Some (tree_of x.value)) (tree_at (forest_of xs) (p - 1)) ≡ None) [
      | true ↦ λ e. absurd (let is : p ≡ 1 = eqb-true p 1 e in omega arith)
      | false ↦ λ _. tree_at-past xs (p - 1) (omega arith)
    ] refl

pub tree_at-index : (xs : List (Rc Node Global)) (p : ℕ) (d : Rc Node Global) → 0 < p → p ≤ length xs
    → tree_at (forest_of xs) p ≡ Some (tree_of (get_or xs (p - 1) d).value)
tree_at-index [] p d h g = absurd (omega arith)
tree_at-index (x ∷ xs) p d h g =
    elim (p == 1) as (λ b. (p == 1) ≡ b
    → cond b (Some (tree_of x.value)) (tree_at (forest_of xs) (p - 1)) ≡ Some (tree_of (get_or (x ∷ xs) (p - 1) d).value)) [
      | true ↦ λ e. let is : p ≡ 1 = eqb-true p 1 e in rw is refl
      | false ↦ λ e.
          let apart : p ≢ 1 = λ is. true_false (sym (eq-eqb p 1 is) ∙ e) in
          let before : suc (p - 1 - 1) ≡ p - 1 = omega arith in
          tree_at-index xs (p - 1) d (omega arith) (omega arith) ∙ ap (λ n. Some (tree_of (get_or (x ∷ xs) n d).value)) before
    ] refl

-- siblings behind siblings
pub forest_of-append : (xs ys : List (Rc Node Global)) → forest_of (xs ++ ys) ≡ spec.followed (forest_of xs) (forest_of ys)
forest_of-append [] ys = refl
forest_of-append (x ∷ xs) ys = ap (spec.Node (tree_of x.value).number (tree_of x.value).content (tree_of x.value).children) (forest_of-append xs ys)
