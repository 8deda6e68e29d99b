-- Where one node alone stands in document order, and namespace nodes of an element whose namespace nodes were counted.
use Rattle.std.proofs.Common.{◌≡◌, ◌≢◌, ◌<◌, ◌≤◌, ◌-◌, ◌==◌, ℕ, Bool, true, false, cond, List, [], ◌∷◌, ◌++◌, Option, None, Some, is_some, length, get_or}
use Rattle.std.proofs.Common.{refl, sym, ap, ◌∙◌, arith, append-nil, eq-eqb}
use Rattle.std.specs.Prelude.{IsSome}
use Rattle.std.specs.List.{list_any}
use Rattle.std.specs.List.Sorted.{IsStrictlySortedBy}
use Rattle.std.specs.Option.{option_map, option_and_then, option_to_list}
use Rattle.std.specs.Ordering.{eq_by_cmp}
use Rattle.std.proofs.lemmas.Bool.{eqb-true}
use Rattle.spec_document.specs.Forest.{Document}
use Rattle.spec_document.specs.Place.{Found, Item, NamespaceNode, at_number, namespace_at, namespaces_of, node_at, root_of}
use Rattle.spec_document.specs.Order.{entries_of}
use Rattle.spec_meaning.specs.Step.{ordered}
use Rattle.spec_node.specs.Naming.{ref_of, same_ref}
use Rattle.spec_node.specs.declared.node_ref.NodeRef.{NodeRef}
use Rattle.spec_node.specs.declared.node_ref.Part.TheVariants as part
use Rattle.xt_tree.specs.Numbers.{IsNumbered}
use Rattle.xt_tree.specs.View.{part_of, item_of, itself, numbered_node, IsPlaceOf}
use Rattle.xt_tree.proofs.Views.{true_false}
use Rattle.xt_tree.proofs.Ways.{some_mapped, root_there}
use Rattle.xp_axes.specs.Along.{if_taken}
use Rattle.xp_axes.specs.Placed.{Placed, placed_cmp, place_of, HasNamespaces}
use Rattle.xp_axes.proofs.Inside.{there}
use Rattle.xp_axes.proofs.Kept.{some_same, order_is, not_placed, placed_at, placed_there}
use Rattle.xp_axes.proofs.Placing.{InOrder}

-- ---- One node

alone : (p : Placed) → InOrder (p ∷ [])
unfolding IsStrictlySortedBy
alone p = (tt, tt)

no_one : InOrder []
unfolding IsStrictlySortedBy
no_one = tt

pub one_ordered : (document : Document ℕ) → IsNumbered document → (r : NodeRef) (b : Bool) → b ≡ is_some (item_of document r)
    → if_taken b r ≡ ordered ref_of same_ref (entries_of document) (r ∷ [])
one_ordered document numbers r b e = ap (λ t. if_taken t r) e ∙ by (item_of document r) refl
  where
    members : (o : Option Placed) → place_of document r ≡ o → (p : Placed)
        → list_any (eq_by_cmp placed_cmp p) (option_to_list o)
        ≡ list_any (eq_by_cmp placed_cmp p) (option_to_list (place_of document r) ++ [])
    members o is p =
        ap (list_any (eq_by_cmp placed_cmp p)) (ap option_to_list (sym is) ∙ sym (append-nil (option_to_list (place_of document r))))

    by : (o : Option (Item ℕ)) → item_of document r ≡ o → if_taken (is_some o) r ≡ ordered ref_of same_ref (entries_of document) (r ∷ [])
    by None none = order_is document numbers (r ∷ []) [] no_one (members None (not_placed document numbers r none))
    by (Some item) is =
        let i = there document numbers r (ap is_some is) in
        let placed : Placed = record { path = i.path; node = r } in
        order_is document numbers (r ∷ []) (placed ∷ []) (alone placed) (members (Some placed) (placed_at document r i.path i.entry))

pub one_of : (xs : List NodeRef) (d : NodeRef) → length xs ≡ 1 → get_or xs 0 d ∷ [] ≡ xs
one_of [] d h = absurd (omega (arith, h))
one_of (x ∷ []) d h = refl
one_of (x ∷ y ∷ xs) d h = absurd (omega (arith, h))

-- ---- Which numbers are counted

pub none_at_zero : {A : Type 0} (xs : List A) → is_some (at_number 0 xs) ≡ false
none_at_zero [] = refl
none_at_zero (x ∷ xs) = none_at_zero xs

pub none_above : {A : Type 0} (n : ℕ) (xs : List A) → length xs < n → is_some (at_number n xs) ≡ false
none_above n [] h = refl
none_above n (x ∷ xs) h =
    elim (n == 1) as (λ b. (n == 1) ≡ b → is_some (cond b (Some x) (at_number (n - 1) xs)) ≡ false) [
      | true ↦ λ e. let is : n ≡ 1 = eqb-true n 1 e in absurd (omega (arith, h, is))
      | false ↦ λ e.
          let other : n ≢ 1 = λ is. true_false (sym (eq-eqb n 1 is) ∙ e) in
          none_above (n - 1) xs (omega (arith, h, other))
    ] refl

pub some_up_to : {A : Type 0} (n : ℕ) (xs : List A) → n ≢ 0 → n ≤ length xs → is_some (at_number n xs) ≡ true
some_up_to n [] more h = absurd (omega (arith, h, more))
some_up_to n (x ∷ xs) more h =
    elim (n == 1) as (λ b. (n == 1) ≡ b → is_some (cond b (Some x) (at_number (n - 1) xs)) ≡ true) [
      | true ↦ λ e. refl
      | false ↦ λ e.
          let other : n ≢ 1 = λ is. true_false (sym (eq-eqb n 1 is) ∙ e) in
          let less : n - 1 ≢ 0 = λ is. omega (arith, is, other, more) in
          some_up_to (n - 1) xs less (omega (arith, h, more))
    ] refl

-- ---- Namespace nodes of an element

pub root_bare : (document : Document ℕ) (n : ℕ) → n ≡ document.root → HasNamespaces document n 0
root_bare document n e x is =
    ap (λ y. length (namespaces_of y)) (some_same (root_of document) x (sym (root_there document n (eq-eqb document.root n (sym e))) ∙ is))

-- whether so many were counted
abbrev Tells : Bool → ℕ → ℕ → Type 0
Tells b number count = (xs : List (List ℕ × List ℕ)) → count ≡ length xs → b ≡ is_some (at_number number xs)

pub told : (document : Document ℕ) (r : NodeRef) (number count : ℕ) (b : Bool) → r.part ≡ part.Namespace number
    → HasNamespaces document r.node.number count → Tells b number count
    → (x : Found ℕ) → numbered_node document r.node.number ≡ Some x → b ≡ is_some (item_of document r)
told document r number count b own counted tells x is =
    let there : is_some (item_of document r) ≡ is_some (namespace_at x number) = λ i. is_some (option_and_then (part_of (own i)) (is i)) in
    tells (namespaces_of x) (counted x is)
    ∙ sym (some_mapped (λ n. NamespaceNode x n.0 n.1) (at_number number (namespaces_of x)))
    ∙ sym there

none_of : {A : Type 0} (o : Option A) → false ≡ is_some o → o ≡ None
none_of None e = refl
none_of (Some x) e = absurd (cc)

pub not_among : (document : Document ℕ) (r : NodeRef)
    → ((x : Found ℕ) → numbered_node document r.node.number ≡ Some x → false ≡ is_some (item_of document r)) → item_of document r ≡ None
not_among document r h = by (numbered_node document r.node.number) refl
  where
    by : (o : Option (Found ℕ)) → numbered_node document r.node.number ≡ o → item_of document r ≡ None
    by None is = ap (option_and_then (part_of r.part)) is
    by (Some x) is = none_of (item_of document r) (h x is)

-- ---- The place of what its element has

itself_none : (o : Option (Found ℕ)) → option_and_then (part_of part.Itself) o ≡ None → o ≡ None
itself_none None e = refl
itself_none (Some x) e = absurd (cc)

pub unplaced : (document : Document ℕ) → IsNumbered document → (r : NodeRef) → item_of document (itself r.node.number) ≡ None
    → place_of document r ≡ None
unplaced document numbers r none =
    not_placed document numbers r (ap (option_and_then (part_of r.part)) (itself_none (numbered_node document r.node.number) none))

some_not : {A : Type 0} (o : Option A) → is_some o ≡ true → o ≢ None
some_not None h e = absurd (cc)
some_not (Some x) h e = absurd (cc)

is_there : {A : Type 0} (o : Option A) → (o ≡ None → ⊥) → is_some o ≡ true
is_there None h = absurd (h refl)
is_there (Some x) h = refl

abbrev pub Only : Document ℕ → NodeRef → List ℕ → Type 0
Only document r path =
    IsSome (item_of document r) → (ps : List ℕ) → option_map (λ n. n.label) (node_at document ps) ≡ Some r.node.number → Some path ≡ Some ps

pub owned_there : (document : Document ℕ) (r : NodeRef) (path : List ℕ)
    → ((x : Found ℕ) → numbered_node document r.node.number ≡ Some x → IsSome (item_of document r))
    → IsPlaceOf document (itself r.node.number) (Some path) → Only document (itself r.node.number) path
    → place_of document r ≡ Some (record { path = path; node = r })
owned_there document r path owned place only =
    placed_there document r path (place.0, by (numbered_node document r.node.number) refl)
    (λ some. only (is_there (item_of document (itself r.node.number)) place.1))
  where
    by : (o : Option (Found ℕ)) → numbered_node document r.node.number ≡ o → item_of document r ≢ None
    by None is = absurd (place.1 (ap (option_and_then (part_of part.Itself)) is))
    by (Some x) is = some_not (item_of document r) (owned x is)
