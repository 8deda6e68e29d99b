-- Siblings of which those that others have too are left out.
use Rattle.std.proofs.Common.{◌≡◌, ℕ, zero, suc, ◌+◌, ◌<◌, true, false, List, [], ◌∷◌, ◌++◌, length, get_or, take, drop, Option, None, Some, refl, sym, ap, ◌∙◌, append_assoc, append-nil, arith}
use Rattle.std.specs.Prelude.{◌&&◌, ◌==◌, if◌then◌else◌}
use Rattle.std.specs.List.{list_all}
use Rattle.std.specs.Option.{option_or}
use Rattle.std.specs.declared.rc.Rc.{Rc}
use Rattle.std.specs.declared.alloc.Global.{Global}
use Rattle.std.proofs.lemmas.Bool.{and_parts}
use Rattle.std.proofs.lemmas.List.{at_drop_more, take_more}
use Rattle.spec_document.specs.Forest.{Document, Forest, Empty, Node, labels}
use Rattle.spec_change.specs.Change.{is_among, sibling_labels}
use Rattle.spec_touch.specs.Leads.{AreTold}
use Rattle.spec_touch.proofs.Parting.{told-itself}
use Rattle.xt_tree.specs.View.{Tree, first_tree, forest_of, tree_of}
use Rattle.xt_tree.specs.declared.node.Node as code
use Rattle.xt_touch.specs.Loose.{loose_among, loose_tree}
use Rattle.xt_touch.specs.Missing.{below, children_of, missing_among, missing_tree}
use Rattle.xt_touch.proofs.Members.{All, all_parts}

-- ---- One that is told is left out

nothing_missing : (numbers : List ℕ) (tree : Tree) → is_among numbers tree.number ≡ true → missing_tree numbers tree ≡ []
nothing_missing numbers tree h = ap (λ b. if b then [] else tree.number ∷ labels tree.children) h

-- the sibling at an index is told where all are
pub one_told : (numbers : List ℕ) (siblings : List (Rc code.Node Global)) (i : ℕ) (d : Rc code.Node Global) → AreTold numbers (forest_of siblings)
    → i < length siblings → is_among numbers (tree_of (get_or siblings i d).value).number ≡ true
one_told numbers [] i d told h = absurd (omega arith)
one_told numbers (x ∷ xs) zero d told h = (and_parts (is_among numbers (tree_of x.value).number) (list_all (is_among numbers) (sibling_labels (forest_of xs))) told).0
one_told numbers (x ∷ xs) (suc i) d told h =
    one_told numbers xs i d (and_parts (is_among numbers (tree_of x.value).number) (list_all (is_among numbers) (sibling_labels (forest_of xs))) told).1
    (omega arith)

-- from the front
pub front_turn : (numbers : List ℕ) (siblings : List (Rc code.Node Global)) (i : ℕ) (x : Rc code.Node Global) (all : List ℕ) → i < length siblings
    → x ≡ get_or siblings i x → is_among numbers (tree_of x.value).number ≡ true → missing_among numbers (forest_of (drop i siblings)) ≡ all
    → missing_among numbers (forest_of (drop (i + 1) siblings)) ≡ all
front_turn numbers siblings i x all h is told before =
    let behind = drop (i + 1) siblings in
    ap (λ list. list ++ missing_among numbers (forest_of behind)) (sym (nothing_missing numbers (tree_of x.value) told))
    ∙ ap (λ (y : Rc code.Node Global). missing_among numbers (forest_of (y ∷ behind))) is
    ∙ sym (at_drop_more (λ xs. missing_among numbers (forest_of xs)) siblings i x h) ∙ before

missing_append : (numbers : List ℕ) (xs ys : List (Rc code.Node Global))
    → missing_among numbers (forest_of (xs ++ ys)) ≡ missing_among numbers (forest_of xs) ++ missing_among numbers (forest_of ys)
missing_append numbers [] ys = refl
missing_append numbers (x ∷ xs) ys =
    let here = missing_tree numbers (tree_of x.value) in
    ap (λ list. here ++ list) (missing_append numbers xs ys)
    ∙ sym (append_assoc here (missing_among numbers (forest_of xs)) (missing_among numbers (forest_of ys)))

-- from the end
pub end_turn : (numbers : List ℕ) (siblings : List (Rc code.Node Global)) (i : ℕ) (x : Rc code.Node Global) (all : List ℕ) → i < length siblings
    → x ≡ get_or siblings i x → is_among numbers (tree_of x.value).number ≡ true → missing_among numbers (forest_of (take (i + 1) siblings)) ≡ all
    → missing_among numbers (forest_of (take i siblings)) ≡ all
end_turn numbers siblings i x all h is told before =
    let front = take i siblings in
    sym (append-nil (missing_among numbers (forest_of front)))
    ∙ ap (λ list. missing_among numbers (forest_of front) ++ (list ++ [])) (sym (nothing_missing numbers (tree_of x.value) told))
    ∙ sym (missing_append numbers front (x ∷ []))
    ∙ ap (λ (y : Rc code.Node Global). missing_among numbers (forest_of (front ++ y ∷ []))) is
    ∙ ap (λ xs. missing_among numbers (forest_of xs)) (sym (take_more siblings i x h)) ∙ before

-- ---- The children of a node are told where all of the document are

siblings_told : (numbers : List ℕ) (f : Forest ℕ) → All numbers (labels f) → AreTold numbers f
siblings_told numbers Empty h = refl
siblings_told numbers (Node l c f g) h =
    let parts = and_parts (is_among numbers l) (list_all (is_among numbers) (labels f ++ labels g)) h in
    let rest = siblings_told numbers g (all_parts numbers (labels f) (labels g) parts.1).1 in
    ap (λ b. b && list_all (is_among numbers) (sibling_labels g)) parts.0 ∙ rest

either_told : (numbers : List ℕ) (a b : Option Tree) → All numbers (labels (below a)) → All numbers (labels (below b))
    → All numbers (labels (below (option_or a b)))
either_told numbers None b h k = k
either_told numbers (Some x) b h k = h

below_told : (numbers : List ℕ) (n : ℕ) (f : Forest ℕ) → All numbers (labels f) → All numbers (labels (below (first_tree n f)))
below_told numbers n Empty h = refl
below_told numbers n (Node l c f g) h =
    let parts = and_parts (is_among numbers l) (list_all (is_among numbers) (labels f ++ labels g)) h in
    let rest = all_parts numbers (labels f) (labels g) parts.1 in
    elim (l == n) as (λ b. All numbers
    (labels (below (if b then Some (record { number = l; content = c; children = f }) else option_or (first_tree n f) (first_tree n g))))) [
      | true ↦ rest.0
      | false ↦ either_told numbers (first_tree n f) (first_tree n g) (below_told numbers n f rest.0) (below_told numbers n g rest.1)
    ]

pub children_told : (n : ℕ) (document : Document ℕ) → AreTold (labels document.nodes) (children_of n document)
children_told n document =
    elim (document.root == n) as (λ b. AreTold (labels document.nodes) (if b then document.nodes else below (first_tree n document.nodes))) [
      | true ↦ siblings_told (labels document.nodes) document.nodes (told-itself (labels document.nodes))
      | false ↦ siblings_told (labels document.nodes) (below (first_tree n document.nodes))
          (below_told (labels document.nodes) n document.nodes (told-itself (labels document.nodes)))
    ]

-- ---- What is gathered of siblings, one after another

-- a turn of gathering what there is of one
pub gathered_turn : (one : Tree → List ℕ) (all_of : Forest ℕ → List ℕ)
    → ((x : Rc code.Node Global) (xs : List (Rc code.Node Global)) → all_of (forest_of (x ∷ xs)) ≡ one (tree_of x.value) ++ all_of (forest_of xs))
    → (siblings : List (Rc code.Node Global)) (i : ℕ) (x : Rc code.Node Global) (was now all : List ℕ)
    → i < length siblings → x ≡ get_or siblings i x → now ≡ was ++ one (tree_of x.value)
    → was ++ all_of (forest_of (drop i siblings)) ≡ all → now ++ all_of (forest_of (drop (i + 1) siblings)) ≡ all
gathered_turn one all_of step siblings i x was now all h is more before =
    let behind = drop (i + 1) siblings in
    let rest = all_of (forest_of behind) in
    ap (λ list. list ++ rest) more ∙ append_assoc was (one (tree_of x.value)) rest
    ∙ ap (λ list. was ++ list) (sym (step x behind))
    ∙ ap (λ (y : Rc code.Node Global). was ++ all_of (forest_of (y ∷ behind))) is
    ∙ sym (at_drop_more (λ xs. was ++ all_of (forest_of xs)) siblings i x h) ∙ before

-- of what is missing
pub missing_turn : (numbers : List ℕ) (siblings : List (Rc code.Node Global)) (i : ℕ) (x : Rc code.Node Global) (was now all : List ℕ)
    → i < length siblings → x ≡ get_or siblings i x → now ≡ was ++ missing_tree numbers (tree_of x.value)
    → was ++ missing_among numbers (forest_of (drop i siblings)) ≡ all → now ++ missing_among numbers (forest_of (drop (i + 1) siblings)) ≡ all
missing_turn numbers = gathered_turn (missing_tree numbers) (missing_among numbers) (λ x xs. refl)

-- of what is no element
pub loose_turn : (siblings : List (Rc code.Node Global)) (i : ℕ) (x : Rc code.Node Global) (was now all : List ℕ)
    → i < length siblings → x ≡ get_or siblings i x → now ≡ was ++ loose_tree (tree_of x.value)
    → was ++ loose_among (forest_of (drop i siblings)) ≡ all → now ++ loose_among (forest_of (drop (i + 1) siblings)) ≡ all
loose_turn = gathered_turn loose_tree loose_among (λ x xs. refl)
