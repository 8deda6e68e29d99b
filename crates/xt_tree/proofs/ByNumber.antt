-- Nodes that are numbered in document order are at their numbers.
use Rattle.std.proofs.Common.{◌≡◌, ℕ, zero, suc, ◌+◌, ◌-◌, ◌<◌, ◌≤◌, ◌==◌, true, false, cond, List, [], ◌∷◌, ◌++◌, length, Option, Some, None}
use Rattle.std.proofs.Common.{refl, sym, ap, ◌∙◌, arith, eq-eqb, length-append, append_assoc}
use Rattle.std.specs.declared.rc.Rc.{Rc}
use Rattle.std.specs.declared.alloc.Global.{Global}
use Rattle.std.specs.Prelude.{nat_lt}
use Rattle.std.specs.List.{slice_get}
use Rattle.std.specs.Option.{option_or}
use Rattle.std.proofs.lemmas.Bool.{ltb-true, ltb-false}
use Rattle.std.proofs.lemmas.List.{map-append}
use Rattle.std.proofs.lemmas.Option.{slice_get_past}
use Rattle.spec_document.specs.Forest as spec
use Rattle.spec_document.specs.Forest.{Forest, numbered, size}
use Rattle.xt_tree.specs.ByNumber.{FindsAll, trees_in, trees_of}
use Rattle.xt_tree.specs.declared.by_number.ByNumber.{ByNumber}
use Rattle.xt_tree.specs.declared.node.Node.{Node, out-Node}
use Rattle.xt_tree.specs.View.{Tree, first_tree, forest, forest_of, tree_of}
use Rattle.xt_tree.proofs.Bools.{apart}
use Rattle.xt_tree.proofs.Fresh.{parts}
use Rattle.xt_tree.proofs.Named.{get_behind, get_first}
use Rattle.xt_tree.proofs.Views.{view-Node}

-- a sibling, those below it, and those behind it
trees_first : (n : Node) (more : List Tree)
    → trees_in (forest (tree_of n ∷ more)) ≡ tree_of n ∷ trees_in (forest_of (out-Node n).children.items) ++ trees_in (forest more)
trees_first n more = rw (view-Node n) refl

-- one sibling more
pub next_trees : (n : Node) (more : List Tree) (item : Rc Node Global) (list pushed after children : List (Rc Node Global)) → item.value ≡ n
    → children ≡ (out-Node n).children.items → pushed ≡ list ++ item ∷ [] → trees_of after ≡ trees_of pushed ++ trees_in (forest_of children)
    → trees_of after ++ trees_in (forest more) ≡ trees_of list ++ trees_in (forest (tree_of n ∷ more))
next_trees n more item list pushed after children item_is children_is pushed_is after_is =
    let rest = trees_in (forest more) in
    let below = trees_in (forest_of children) in
    ap (λ ts. ts ++ rest) after_is ∙ ap (λ xs. (trees_of xs ++ below) ++ rest) pushed_is
    ∙ ap (λ ts. (ts ++ below) ++ rest) (map-append (λ n. tree_of n.value) list (item ∷ []))
    ∙ append_assoc (trees_of list ++ tree_of item.value ∷ []) below rest
    ∙ append_assoc (trees_of list) (tree_of item.value ∷ []) (below ++ rest)
    ∙ ap (λ m. trees_of list ++ tree_of m ∷ (below ++ rest)) item_is
    ∙ ap (λ xs. trees_of list ++ tree_of n ∷ (trees_in (forest_of xs) ++ rest)) children_is
    ∙ ap (λ ts. trees_of list ++ ts) (sym (trees_first n more))

length-trees_in : (f : Forest ℕ) → length (trees_in f) ≡ size f
length-trees_in spec.Empty = refl
length-trees_in (spec.Node l c f g) =
    let below = length-trees_in f in let behind = length-trees_in g in omega (arith, length-append (trees_in f) (trees_in g))

or_found : {A : Type 0} (xs : List A) (i : ℕ) (o : Option A) → i < length xs → option_or (slice_get xs i) o ≡ slice_get xs i
or_found [] i o h = absurd (omega arith)
or_found (x ∷ xs) zero o h = refl
or_found (x ∷ xs) (suc i) o h = or_found xs i o (omega arith)

-- no node has a number below the first
not_below : (first number : ℕ) (f : Forest ℕ) → numbered first f ≡ f → number < first → first_tree number f ≡ None
not_below first number spec.Empty order h = refl
not_below first number (spec.Node l c f g) order h =
    let s = parts first l c f g order in
    let own : (l == number) ≡ false = apart l number (λ is. omega (arith, s.own)) in
    let below = not_below (first + 1) number f s.below (omega arith) in
    let behind = not_below (first + 1 + size f) number g s.behind (omega arith) in
    ap (λ b. cond b (Some (record { number = l; content = c; children = f })) (option_or (first_tree number f) (first_tree number g))) own
    ∙ ap (λ o. option_or o (first_tree number g)) below ∙ behind

-- from the first on each is at its number
pub at_index : (first index : ℕ) (f : Forest ℕ) → numbered first f ≡ f → first_tree (first + index) f ≡ slice_get (trees_in f) index
at_index first index spec.Empty order = refl
at_index first zero (spec.Node l c f g) order =
    let s = parts first l c f g order in
    let own : (l == first + 0) ≡ true = eq-eqb l (first + 0) (omega (arith, s.own)) in
    ap (λ b. cond b (Some (record { number = l; content = c; children = f })) (option_or (first_tree (first + 0) f) (first_tree (first + 0) g))) own
at_index first (suc i) (spec.Node l c f g) order =
    let s = parts first l c f g order in
    let n = first + suc i in
    let own : (l == n) ≡ false = apart l n (λ is. omega (arith, s.own)) in
    let long = length-trees_in f in
    let shift : n ≡ first + 1 + i = omega arith in
    let below : first_tree n f ≡ slice_get (trees_in f) i = ap (λ m. first_tree m f) shift ∙ at_index (first + 1) i f s.below in
    let either : option_or (first_tree n f) (first_tree n g) ≡ slice_get (trees_in f ++ trees_in g) i =
    elim (nat_lt i (size f)) as (λ b. (nat_lt i (size f)) ≡ b
    → option_or (first_tree n f) (first_tree n g) ≡ slice_get (trees_in f ++ trees_in g) i) [
      | true ↦ λ less.
          let within : i < length (trees_in f) = omega (arith, long, ltb-true i (size f) less) in
          ap (λ o. option_or o (first_tree n g)) below ∙ or_found (trees_in f) i (first_tree n g) within
          ∙ sym (get_first (trees_in f) (trees_in g) i within)
      | false ↦ λ most.
          let past : size f ≤ i = ltb-false i (size f) most in
          let over : length (trees_in f) ≤ i = omega (arith, long) in
          let j = i - size f in
          let is : n ≡ first + 1 + size f + j = omega arith in
          let index : length (trees_in f) + j ≡ i = omega (arith, long) in
          ap (λ o. option_or o (first_tree n g)) (below ∙ slice_get_past (trees_in f) i over) ∙ ap (λ m. first_tree m g) is
          ∙ at_index (first + 1 + size f) j g s.behind ∙ sym (get_behind (trees_in f) (trees_in g) j)
          ∙ ap (slice_get (trees_in f ++ trees_in g)) index
    ] refl in
    ap (λ b. cond b (Some (record { number = l; content = c; children = f })) (option_or (first_tree n f) (first_tree n g))) own ∙ either

-- the nodes of a document that are numbered in document order
pub document_nodes : (nodes : ByNumber) (root : ℕ) (f : Forest ℕ) → nodes.first ≡ root + 1 → trees_of nodes.list.items ≡ trees_in f
    → numbered (root + 1) f ≡ f → FindsAll nodes f
document_nodes nodes root f first_is list_is order _ number =
    elim (nat_lt number nodes.first) as (λ b. (nat_lt number nodes.first) ≡ b
    → cond b None (slice_get (trees_of nodes.list.items) (number - nodes.first)) ≡ first_tree number f) [
      | true ↦ λ less. sym (not_below (root + 1) number f order (omega (arith, first_is, ltb-true number nodes.first less)))
      | false ↦ λ most.
          let from : nodes.first ≤ number = ltb-false number nodes.first most in
          let i = number - nodes.first in
          let is : root + 1 + i ≡ number = omega (arith, first_is) in
          ap (λ ts. slice_get ts i) list_is ∙ sym (at_index (root + 1) i f order) ∙ ap (λ n. first_tree n f) is
    ] refl

-- where they are not all nodes
pub no_nodes : (nodes : ByNumber) (f : Forest ℕ) → nodes.is_whole ≡ false → FindsAll nodes f
no_nodes nodes f none whole = absurd (cc)
