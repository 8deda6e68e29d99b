-- What an axis takes at the node that the way leads to, or at the element whose attribute or namespace node it ends at.
use Rattle.std.proofs.Common.{◌≡◌, ◌≤◌, ◌<◌, ℕ, ◌+◌, ◌-◌, ◌==◌, Bool, true, false, cond, zero, suc, List, [], ◌∷◌}
use Rattle.std.proofs.Common.{◌++◌, None, Some, refl, sym, ap, ◌∙◌, subst, arith, eq-eqb, append-nil}
use Rattle.std.specs.Prelude.{◌&&◌, IsTrue}
use Rattle.std.proofs.lemmas.Bool.{eqb-true}
use Rattle.std.specs.Ordering.{is_eq}
use Rattle.std.specs.declared.cmp.Ordering.{Ordering}
use Rattle.std.specs.declared.cmp.Ordering.TheVariants.{Less, Equal, Greater}
use Rattle.spec_document.specs.declared.axis.Axis.{Axis}
use Rattle.spec_document.specs.declared.axis.Axis.TheVariants as axis
use Rattle.spec_document.specs.Forest.{Written}
use Rattle.spec_document.specs.Place.{Found, at_number, attributes_of, namespaces_of}
use Rattle.spec_document.specs.Order.{Way, ToNamespace, ToAttribute, ToChild, way_cmp, namespace_entries, attribute_entries, own_entries, entries_in}
use Rattle.spec_document.specs.Axis.{is_in_tree, is_on, is_later_child}
use Rattle.spec_document.proofs.Ways.{way_same}
use Rattle.spec_document.proofs.Listed.{way_self, Namespaces, rises, below, less, first_of, second_of, namespaces-rise}
use Rattle.xt_tree.specs.View.{itself}
use Rattle.spec_node.specs.declared.node_ref.NodeRef.{NodeRef}
use Rattle.spec_node.specs.declared.node_ref.Part.TheVariants as part
use Rattle.xp_axes.specs.Along.{if_taken, taken, below as below_axis, beside, is_above, is_itself}
use Rattle.xp_axes.proofs.Picked.{both, within, listing, picked, picked_append, passed_over, own_is, taken_all}

-- ---- A node of the tree

itself_is : (x : Axis) → is_on x [] [] ≡ is_itself x
itself_is axis.Itself = refl
itself_is axis.Child = refl
itself_is axis.Attribute = refl
itself_is axis.Namespace = refl
itself_is axis.Parent = refl
itself_is axis.Descendant = refl
itself_is axis.DescendantOrSelf = refl
itself_is axis.Ancestor = refl
itself_is axis.AncestorOrSelf = refl
itself_is axis.Following = refl
itself_is axis.Preceding = refl
itself_is axis.FollowingSibling = refl
itself_is axis.PrecedingSibling = refl

below_is : (x : Axis) (n : ℕ) (q : List Way) → is_on x [] (ToChild n ∷ q) ≡ within (below_axis x) q
below_is axis.Itself n q = refl
below_is axis.Child n [] = refl
below_is axis.Child n (d ∷ q) = refl
below_is axis.Attribute n q = refl
below_is axis.Namespace n q = refl
below_is axis.Parent n q = refl
below_is axis.Descendant n q = refl
below_is axis.DescendantOrSelf n q = refl
below_is axis.Ancestor n q = refl
below_is axis.AncestorOrSelf n q = refl
below_is axis.Following n q = refl
below_is axis.Preceding n q = refl
below_is axis.FollowingSibling n q = refl
below_is axis.PrecedingSibling n [] = refl
below_is axis.PrecedingSibling n (d ∷ q) = refl

pub at_itself : (x : Axis) (node : Found ℕ) (xs ys : List NodeRef) → picked (is_on x []) (namespace_entries [] node 1 (namespaces_of node)) ≡ xs
    → picked (is_on x []) (attribute_entries [] node 1 (attributes_of node)) ≡ ys
    → picked (is_on x []) (listing node) ≡ (if_taken (is_itself x) (itself node.label) ++ (xs ++ ys)) ++ taken (below_axis x) node.children
at_itself x node xs ys d e =
    picked_append (is_on x []) (own_entries [] node) (entries_in node.above [] 1 node.children)
    ∙ both _ (if_taken (is_itself x) (itself node.label) ++ (xs ++ ys)) _ (taken (below_axis x) node.children)
    (own_is (is_on x []) node xs ys d e ∙ ap (λ b. if_taken b (itself node.label) ++ (xs ++ ys)) (itself_is x))
    (taken_all (is_on x []) (below_axis x) node.above 1 node.children (λ n q h. below_is x n q))

-- ---- An attribute or a namespace node

false_and : (b : Bool) → (b && false) ≡ false
false_and true = refl
false_and false = refl

is_later : (Way → Way → Type 0)
is_later v w = is_later_child (v ∷ []) (w ∷ []) ≡ false

pub record AreOwn (v w : Way) : Type 0 where
  pub tree : is_in_tree (w ∷ []) ≡ false
  pub later : is_later_child (v ∷ []) (w ∷ []) ≡ false
  pub sooner : is_later_child (w ∷ []) (v ∷ []) ≡ false

own_same : (x : Axis) (w : Way) → AreOwn w w → is_on x (w ∷ []) (w ∷ []) ≡ is_itself x
own_same x w own = go x
  where
    s : way_cmp w w ≡ Equal
    s = way_self w

    go : (x : Axis) → is_on x (w ∷ []) (w ∷ []) ≡ is_itself x
    go axis.Itself = rw s refl
    go axis.Child = rw s refl
    go axis.Attribute = rw s refl
    go axis.Namespace = rw s refl
    go axis.Parent = rw s refl
    go axis.Descendant = rw s refl
    go axis.DescendantOrSelf = rw s refl
    go axis.Ancestor = rw s refl
    go axis.AncestorOrSelf = rw s refl
    go axis.Following = rw s refl
    go axis.Preceding = rw s refl
    go axis.FollowingSibling = own.later
    go axis.PrecedingSibling = own.sooner

own_apart : (x : Axis) (v w : Way) → AreOwn v w → is_eq (way_cmp v w) ≡ false → is_eq (way_cmp w v) ≡ false
    → is_on x (v ∷ []) (w ∷ []) ≡ false
own_apart x v w own s r = go x
  where
    go : (x : Axis) → is_on x (v ∷ []) (w ∷ []) ≡ false
    go axis.Itself = rw s refl
    go axis.Child = rw s refl
    go axis.Attribute = rw s refl
    go axis.Namespace = rw s refl
    go axis.Parent = rw r refl
    go axis.Descendant = rw s refl
    go axis.DescendantOrSelf = rw s refl
    go axis.Ancestor = rw r refl
    go axis.AncestorOrSelf = rw r refl
    go axis.Following = rw own.tree (false_and _)
    go axis.Preceding = rw own.tree (false_and _)
    go axis.FollowingSibling = own.later
    go axis.PrecedingSibling = own.sooner

not_equal : (v w : Way) → (v ≡ w → ⊥) → is_eq (way_cmp v w) ≡ false
not_equal v w h = go (way_cmp v w) refl
  where
    go : (o : Ordering) → way_cmp v w ≡ o → is_eq o ≡ false
    go Less e = refl
    go Greater e = refl
    go Equal e = absurd (h (way_same v w e))

-- the attribute of a number, which alone passes
found_attribute : (p : List Way → Bool) (b : Bool) (j : ℕ) → p (ToAttribute j ∷ []) ≡ b
    → ((i : ℕ) → (i ≡ j → ⊥) → p (ToAttribute i ∷ []) ≡ false)
    → (node : Found ℕ) (s t : ℕ) (xs : List Written) (a : Written) → j ≡ s + t → at_number (t + 1) xs ≡ Some a
    → picked p (attribute_entries [] node s xs) ≡ if_taken b (record { node = record { number = node.label }; part = part.Attribute j })
found_attribute p b j at other node s t [] a is h = absurd (cc)
found_attribute p b j at other node s t (x ∷ xs) a is h =
    elim (t == 0) as (λ r. (t == 0) ≡ r
    → picked p (attribute_entries [] node s (x ∷ xs)) ≡ if_taken b (record { node = record { number = node.label }; part = part.Attribute j })) [
      | true ↦ λ e.
          let none : t ≡ 0 = eqb-true t 0 e in
          let same : s ≡ j = omega arith in
          first b s same (ap (λ (n : ℕ). p (ToAttribute n ∷ [])) same ∙ at) (rest (s + 1) xs (omega arith))
      | false ↦ λ e.
          let positive : 1 ≤ t = not_zero t e in
          let later : (t + 1 == 1) ≡ false = not_one (t + 1) (omega arith) in
          let back : t - 1 + 1 ≡ t + 1 - 1 = omega arith in
          passed_over _ _ _ _ (other s (λ (d : s ≡ j). omega arith))
          (found_attribute p b j at other node (s + 1) (t - 1) xs a (omega arith)
          (ap (λ n. at_number n xs) back ∙ sym (ap (λ r. cond r (Some x) (at_number (t + 1 - 1) xs)) later) ∙ h))
    ] refl
  where
    not_zero : (n : ℕ) → (n == 0) ≡ false → 1 ≤ n
    not_zero zero h = absurd (cc)
    not_zero (suc n) h = omega arith

    not_one : (n : ℕ) → 1 < n → (n == 1) ≡ false
    not_one n h = elim (n == 1) as (λ r. (n == 1) ≡ r → r ≡ false)
        [ true ↦ λ e. absurd (let is : n ≡ 1 = eqb-true n 1 e in omega arith) | false ↦ λ e. refl ] refl

    rest : (k : ℕ) (ys : List Written) → j < k → picked p (attribute_entries [] node k ys) ≡ []
    rest k [] lt = refl
    rest k (y ∷ ys) lt = passed_over _ _ _ _ (other k (λ (d : k ≡ j). omega arith)) (rest (k + 1) ys (omega arith))

    first : (b : Bool) (n : ℕ) → n ≡ j → p (ToAttribute n ∷ []) ≡ b → {us : List NodeRef} → us ≡ []
        → cond (p (ToAttribute n ∷ [])) (record { node = record { number = node.label }; part = part.Attribute n } ∷ us) us
        ≡ if_taken b (record { node = record { number = node.label }; part = part.Attribute j })
    first b n same d {us} e = λ i. cond (d i) (record { node = record { number = node.label }; part = part.Attribute (same i) } ∷ e i) (e i)

-- the same of namespace nodes, by their prefixes
less_at : (y : List ℕ) (t : ℕ) (ns : Namespaces) (n : List ℕ × List ℕ) → IsTrue (below y ns) → at_number t ns ≡ Some n
    → way_cmp (ToNamespace y) (ToNamespace n.0) ≡ Less
less_at y t [] n h e = absurd (cc)
less_at y t (m ∷ ns) n h e =
    elim (t == 1) as (λ r. cond r (Some m) (at_number (t - 1) ns) ≡ Some n → way_cmp (ToNamespace y) (ToNamespace n.0) ≡ Less) [
      | true ↦ λ e. let same = some_same m n e in
          ap (λ (k : List ℕ × List ℕ). way_cmp (ToNamespace y) (ToNamespace k.0)) (sym same) ∙ less _ (first_of _ (below y ns) h)
      | false ↦ λ e. less_at y (t - 1) ns n (second_of _ (below y ns) h) e
    ] e
  where
    some_same : {A : Type 0} (x y : A) → Some x ≡ Some y → x ≡ y
    some_same x y e = ap (λ o. elim o [ Some z ↦ z | None ↦ x ]) e

less_apart : (v w : Way) → way_cmp v w ≡ Less → v ≡ w → ⊥
less_apart v w e same = let f : Less ≡ Equal = sym e ∙ ap (λ (u : Way). way_cmp u w) same ∙ way_self w in cc

none_below : (p : List Way → Bool) (x : List ℕ) → ((y : List ℕ) → (ToNamespace x ≡ ToNamespace y → ⊥) → p (ToNamespace y ∷ []) ≡ false)
    → (node : Found ℕ) (s : ℕ) (ns : Namespaces) → IsTrue (below x ns) → picked p (namespace_entries [] node s ns) ≡ []
none_below p x other node s [] h = refl
none_below p x other node s (m ∷ ns) h =
    passed_over _ _ _ _ (other m.0 (less_apart (ToNamespace x) (ToNamespace m.0) (less _ (first_of _ (below x ns) h))))
    (none_below p x other node (s + 1) ns (second_of _ (below x ns) h))

found_namespace : (p : List Way → Bool) (b : Bool) (n : List ℕ × List ℕ) → p (ToNamespace n.0 ∷ []) ≡ b
    → ((y : List ℕ) → (ToNamespace n.0 ≡ ToNamespace y → ⊥) → p (ToNamespace y ∷ []) ≡ false)
    → (node : Found ℕ) (j s t : ℕ) (ns : Namespaces) → j ≡ s + t → at_number (t + 1) ns ≡ Some n → IsTrue (rises ns)
    → picked p (namespace_entries [] node s ns) ≡ if_taken b (record { node = record { number = node.label }; part = part.Namespace j })
found_namespace p b n at other node j s t [] is h up = absurd (cc)
found_namespace p b n at other node j s t (m ∷ ns) is h up =
    elim (t == 0) as (λ r. (t == 0) ≡ r
    → picked p (namespace_entries [] node s (m ∷ ns)) ≡ if_taken b (record { node = record { number = node.label }; part = part.Namespace j })) [
      | true ↦ λ e.
          let none : t ≡ 0 = eqb-true t 0 e in
          let same : s ≡ j = omega arith in
          let now : (t + 1 == 1) ≡ true = eq-eqb (t + 1) 1 (omega arith) in
          let is_m = some_same m n (sym (ap (λ r. cond r (Some m) (at_number (t + 1 - 1) ns)) now) ∙ h) in
          first b s same m.0 (ap (λ (k : List ℕ × List ℕ). p (ToNamespace k.0 ∷ [])) is_m ∙ at)
          (none_below p n.0 other node (s + 1) ns (subst (λ (k : List ℕ × List ℕ). IsTrue (below k.0 ns)) is_m (first_of _ (rises ns) up)))
      | false ↦ λ e.
          let positive : 1 ≤ t = not_zero t e in
          let later : (t + 1 == 1) ≡ false = not_one (t + 1) (omega arith) in
          let back : t - 1 + 1 ≡ t + 1 - 1 = omega arith in
          let more = ap (λ k. at_number k ns) back ∙ sym (ap (λ r. cond r (Some m) (at_number (t + 1 - 1) ns)) later) ∙ h in
          let before = less_at m.0 (t - 1 + 1) ns n (first_of _ (rises ns) up) more in
          passed_over _ _ _ _ (other m.0 (λ (d : ToNamespace n.0 ≡ ToNamespace m.0). less_apart (ToNamespace m.0) (ToNamespace n.0) before (sym d)))
          (found_namespace p b n at other node j (s + 1) (t - 1) ns (omega arith) more (second_of _ (rises ns) up))
    ] refl
  where
    some_same : {A : Type 0} (x y : A) → Some x ≡ Some y → x ≡ y
    some_same x y e = ap (λ o. elim o [ Some z ↦ z | None ↦ x ]) e

    not_zero : (n : ℕ) → (n == 0) ≡ false → 1 ≤ n
    not_zero zero h = absurd (cc)
    not_zero (suc n) h = omega arith

    not_one : (n : ℕ) → 1 < n → (n == 1) ≡ false
    not_one n h = elim (n == 1) as (λ r. (n == 1) ≡ r → r ≡ false)
        [ true ↦ λ e. absurd (let is : n ≡ 1 = eqb-true n 1 e in omega arith) | false ↦ λ e. refl ] refl

    first : (b : Bool) (k : ℕ) → k ≡ j → (x : List ℕ) → p (ToNamespace x ∷ []) ≡ b → {us : List NodeRef} → us ≡ []
        → cond (p (ToNamespace x ∷ [])) (record { node = record { number = node.label }; part = part.Namespace k } ∷ us) us
        ≡ if_taken b (record { node = record { number = node.label }; part = part.Namespace j })
    first b k same x d {us} e = λ i. cond (d i) (record { node = record { number = node.label }; part = part.Namespace (same i) } ∷ e i) (e i)

pub record IsPart (w : Way) : Type 0 where
  pub above : (x : Axis) → is_on x (w ∷ []) [] ≡ is_above x true
  pub beside : (x : Axis) (n : ℕ) (q : List Way) → is_on x (w ∷ []) (ToChild n ∷ q) ≡ within (beside x) q

attribute_above : (j : ℕ) (x : Axis) → is_on x (ToAttribute j ∷ []) [] ≡ is_above x true
attribute_above j axis.Itself = refl
attribute_above j axis.Child = refl
attribute_above j axis.Attribute = refl
attribute_above j axis.Namespace = refl
attribute_above j axis.Parent = refl
attribute_above j axis.Descendant = refl
attribute_above j axis.DescendantOrSelf = refl
attribute_above j axis.Ancestor = refl
attribute_above j axis.AncestorOrSelf = refl
attribute_above j axis.Following = refl
attribute_above j axis.Preceding = refl
attribute_above j axis.FollowingSibling = refl
attribute_above j axis.PrecedingSibling = refl

attribute_beside : (j : ℕ) (x : Axis) (n : ℕ) (q : List Way) → is_on x (ToAttribute j ∷ []) (ToChild n ∷ q) ≡ within (beside x) q
attribute_beside j axis.Itself n q = refl
attribute_beside j axis.Child n q = refl
attribute_beside j axis.Attribute n q = refl
attribute_beside j axis.Namespace n q = refl
attribute_beside j axis.Parent n q = refl
attribute_beside j axis.Descendant n q = refl
attribute_beside j axis.DescendantOrSelf n q = refl
attribute_beside j axis.Ancestor n q = refl
attribute_beside j axis.AncestorOrSelf n q = refl
attribute_beside j axis.Following n q = refl
attribute_beside j axis.Preceding n q = refl
attribute_beside j axis.FollowingSibling n q = refl
attribute_beside j axis.PrecedingSibling n [] = refl
attribute_beside j axis.PrecedingSibling n (d ∷ q) = refl

namespace_above : (j : List ℕ) (x : Axis) → is_on x (ToNamespace j ∷ []) [] ≡ is_above x true
namespace_above j axis.Itself = refl
namespace_above j axis.Child = refl
namespace_above j axis.Attribute = refl
namespace_above j axis.Namespace = refl
namespace_above j axis.Parent = refl
namespace_above j axis.Descendant = refl
namespace_above j axis.DescendantOrSelf = refl
namespace_above j axis.Ancestor = refl
namespace_above j axis.AncestorOrSelf = refl
namespace_above j axis.Following = refl
namespace_above j axis.Preceding = refl
namespace_above j axis.FollowingSibling = refl
namespace_above j axis.PrecedingSibling = refl

namespace_beside : (j : List ℕ) (x : Axis) (n : ℕ) (q : List Way) → is_on x (ToNamespace j ∷ []) (ToChild n ∷ q) ≡ within (beside x) q
namespace_beside j axis.Itself n q = refl
namespace_beside j axis.Child n q = refl
namespace_beside j axis.Attribute n q = refl
namespace_beside j axis.Namespace n q = refl
namespace_beside j axis.Parent n q = refl
namespace_beside j axis.Descendant n q = refl
namespace_beside j axis.DescendantOrSelf n q = refl
namespace_beside j axis.Ancestor n q = refl
namespace_beside j axis.AncestorOrSelf n q = refl
namespace_beside j axis.Following n q = refl
namespace_beside j axis.Preceding n q = refl
namespace_beside j axis.FollowingSibling n q = refl
namespace_beside j axis.PrecedingSibling n [] = refl
namespace_beside j axis.PrecedingSibling n (d ∷ q) = refl

-- the element, the node if its own, and the children
at_part : (x : Axis) (w : Way) → IsPart w → (node : Found ℕ) (self : NodeRef) (xs ys : List NodeRef)
    → picked (is_on x (w ∷ [])) (namespace_entries [] node 1 (namespaces_of node)) ≡ xs
    → picked (is_on x (w ∷ [])) (attribute_entries [] node 1 (attributes_of node)) ≡ ys → xs ++ ys ≡ if_taken (is_itself x) self
    → picked (is_on x (w ∷ [])) (listing node)
    ≡ (if_taken (is_above x true) (itself node.label) ++ if_taken (is_itself x) self) ++ taken (beside x) node.children
at_part x w is node self xs ys d e g =
    picked_append (is_on x (w ∷ [])) (own_entries [] node) (entries_in node.above [] 1 node.children)
    ∙ both _ (if_taken (is_above x true) (itself node.label) ++ if_taken (is_itself x) self) _ (taken (beside x) node.children)
    (own_is (is_on x (w ∷ [])) node xs ys d e
    ∙ both _ (if_taken (is_above x true) (itself node.label)) _ (if_taken (is_itself x) self) (ap (λ b. if_taken b (itself node.label)) (is.above x)) g)
    (taken_all (is_on x (w ∷ [])) (beside x) node.above 1 node.children (λ n q h. is.beside x n q))

attribute_way : (i j : ℕ) → (i ≡ j → ⊥) → ToAttribute i ≡ ToAttribute j → ⊥
attribute_way i j h e = h (cc)

pub at_attribute : (x : Axis) (node : Found ℕ) (j : ℕ) (a : Written) → at_number j (attributes_of node) ≡ Some a → 1 ≤ j
    → picked (is_on x (ToAttribute j ∷ [])) (listing node)
    ≡ (if_taken (is_above x true) (itself node.label)
    ++ if_taken (is_itself x) (record { node = record { number = node.label }; part = part.Attribute j })) ++ taken (beside x) node.children
at_attribute x node j a h lt =
    let self : NodeRef = record { node = record { number = node.label }; part = part.Attribute j } in
    let p = is_on x (ToAttribute j ∷ []) in
    let index : j - 1 + 1 ≡ j = omega arith in
    at_part x (ToAttribute j) (record { above = attribute_above j; beside = attribute_beside j }) node self [] (if_taken (is_itself x) self)
    (others (namespaces_of node) 1)
    (found_attribute p (is_itself x) j (own_same x (ToAttribute j) (record { tree = refl; later = refl; sooner = refl }))
    (λ i d. own_apart x (ToAttribute j) (ToAttribute i) (record { tree = refl; later = refl; sooner = refl })
    (not_equal (ToAttribute j) (ToAttribute i) (λ e. attribute_way i j d (sym e))) (not_equal (ToAttribute i) (ToAttribute j) (attribute_way i j d)))
    node 1 (j - 1) (attributes_of node) a (omega arith) (ap (λ k. at_number k (attributes_of node)) index ∙ h))
    refl
  where
    others : (ns : Namespaces) (s : ℕ) → picked (is_on x (ToAttribute j ∷ [])) (namespace_entries [] node s ns) ≡ []
    others [] s = refl
    others (n ∷ ns) s =
        passed_over _ _ _ _ (own_apart x (ToAttribute j) (ToNamespace n.0) (record { tree = refl; later = refl; sooner = refl }) refl refl)
        (others ns (s + 1))

pub at_namespace : (x : Axis) (node : Found ℕ) (j : ℕ) (n : List ℕ × List ℕ) → at_number j (namespaces_of node) ≡ Some n → 1 ≤ j
    → picked (is_on x (ToNamespace n.0 ∷ [])) (listing node)
    ≡ (if_taken (is_above x true) (itself node.label)
    ++ if_taken (is_itself x) (record { node = record { number = node.label }; part = part.Namespace j })) ++ taken (beside x) node.children
at_namespace x node j n h lt =
    let self : NodeRef = record { node = record { number = node.label }; part = part.Namespace j } in
    let p = is_on x (ToNamespace n.0 ∷ []) in
    let index : j - 1 + 1 ≡ j = omega arith in
    at_part x (ToNamespace n.0) (record { above = namespace_above n.0; beside = namespace_beside n.0 }) node self (if_taken (is_itself x) self) []
    (found_namespace p (is_itself x) n (own_same x (ToNamespace n.0) (record { tree = refl; later = refl; sooner = refl }))
    (λ y d. own_apart x (ToNamespace n.0) (ToNamespace y) (record { tree = refl; later = refl; sooner = refl })
    (not_equal (ToNamespace n.0) (ToNamespace y) d) (not_equal (ToNamespace y) (ToNamespace n.0) (λ (e : ToNamespace y ≡ ToNamespace n.0). d (sym e))))
    node j 1 (j - 1) (namespaces_of node) (omega arith) (ap (λ k. at_number k (namespaces_of node)) index ∙ h) (namespaces-rise node))
    (others (attributes_of node) 1)
    (append-nil (if_taken (is_itself x) self))
  where
    others : (xs : List Written) (s : ℕ) → picked (is_on x (ToNamespace n.0 ∷ [])) (attribute_entries [] node s xs) ≡ []
    others [] s = refl
    others (a ∷ xs) s =
        passed_over _ _ _ _ (own_apart x (ToNamespace n.0) (ToAttribute s) (record { tree = refl; later = refl; sooner = refl }) refl refl)
        (others xs (s + 1))
