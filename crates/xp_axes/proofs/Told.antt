-- No two nodes of a document have one name, where its numbers are distinct.
use Rattle.std.proofs.Common.{◌≡◌, ◌<◌, ℕ, ◌+◌, ◌==◌, Bool, true, false, List, [], ◌∷◌, ◌++◌, refl, sym, ap, ◌∙◌, arith, eq-eqb}
use Rattle.std.specs.Prelude.{◌&&◌, ◌||◌, not}
use Rattle.std.proofs.lemmas.Bool.{and_parts}
use Rattle.std.proofs.lemmas.Bool.Decides.{Decides-eqb}
use Rattle.std.proofs.lemmas.List.Folds.{list_any-append}
use Rattle.spec_document.specs.Forest.{Written, Content, Forest, Empty, Node, Document, labels}
use Rattle.spec_document.specs.Place.{Itself, AtAttribute, AtNamespace, Found, root_of, found_in, TreeNode, AttributeNode, NamespaceNode}
use Rattle.spec_document.specs.Place.{attributes_of, namespaces_of}
use Rattle.spec_document.specs.Order.{Entry, namespace_entries, attribute_entries, own_entries, entries_in, entries_of}
use Rattle.spec_meaning.specs.Naming.{AllDiffer, AreApart}
use Rattle.xt_tree.specs.Numbers.{are_distinct, IsNumbered}
use Rattle.spec_node.specs.declared.node_ref.Part.{Part}
use Rattle.spec_node.specs.declared.node_ref.Part.TheVariants as part
use Rattle.xt_tree.proofs.Distinct.{is_among, or_left, or_right, not_false, apart, distinct_parts, not_before}
use Rattle.spec_node.specs.Naming.{ref_of, number_of, same_ref, same_part}

abbrev pub Told : List (Entry ℕ) → Type 0
Told es = AreApart ref_of same_ref es

abbrev Differs : Entry ℕ → List (Entry ℕ) → Type 0
Differs e es = AllDiffer ref_of same_ref e es

-- all have numbers among these
abbrev AllAmong : List ℕ → List (Entry ℕ) → Type 0
AllAmong ns [] = Unit {0}
AllAmong ns (e ∷ es) = (is_among (number_of e.item) ns ≡ true) × AllAmong ns es

among_append : (ns : List ℕ) (xs ys : List (Entry ℕ)) → AllAmong ns xs → AllAmong ns ys → AllAmong ns (xs ++ ys)
among_append ns [] ys h g = g
among_append ns (x ∷ xs) ys h g = (h.0, among_append ns xs ys h.1 g)

among_left : (ns ms : List ℕ) (es : List (Entry ℕ)) → AllAmong ns es → AllAmong (ns ++ ms) es
among_left ns ms [] h = tt
among_left ns ms (e ∷ es) h =
    (list_any-append (λ m. m == number_of e.item) ns ms ∙ or_left (is_among (number_of e.item) ns) _ h.0, among_left ns ms es h.1)

among_right : (ns ms : List ℕ) (es : List (Entry ℕ)) → AllAmong ms es → AllAmong (ns ++ ms) es
among_right ns ms [] h = tt
among_right ns ms (e ∷ es) h =
    (list_any-append (λ m. m == number_of e.item) ns ms ∙ or_right (is_among (number_of e.item) ns) _ h.0, among_right ns ms es h.1)

differs_append : (e : Entry ℕ) (xs ys : List (Entry ℕ)) → Differs e xs → Differs e ys → Differs e (xs ++ ys)
differs_append e [] ys h g = g
differs_append e (x ∷ xs) ys h g = (h.0, h.1, differs_append e xs ys h.2 g)

-- ---- by their numbers
not_equal : (m n : ℕ) (ns : List ℕ) → is_among m ns ≡ false → is_among n ns ≡ true → ((m == n) ≡ false) × ((n == m) ≡ false)
not_equal m n ns h k = (by (m == n) refl, turned (n == m) refl)
  where
    by : (b : Bool) → (m == n) ≡ b → b ≡ false
    by true e = absurd (apart (is_among n ns) k (ap (λ x. is_among x ns) (sym ((Decides-eqb m n).0 e)) ∙ h))
    by false e = refl

    turned : (b : Bool) → (n == m) ≡ b → b ≡ false
    turned true e = absurd (apart (is_among n ns) k (ap (λ x. is_among x ns) ((Decides-eqb n m).0 e) ∙ h))
    turned false e = refl

differs_by_number : (ns : List ℕ) (e : Entry ℕ) (es : List (Entry ℕ)) → is_among (number_of e.item) ns ≡ false → AllAmong ns es → Differs e es
differs_by_number ns e [] h k = tt
differs_by_number ns e (d ∷ es) h k =
    let other = not_equal (number_of e.item) (number_of d.item) ns h k.0 in (
      ap (λ b. b && same_part (ref_of e).part (ref_of d).part) other.0,
      ap (λ b. b && same_part (ref_of d).part (ref_of e).part) other.1,
      differs_by_number ns e es h k.1,
    )

-- two lists with numbers of their own
told_append : (ns ms : List ℕ) → ((n : ℕ) → is_among n ns ≡ true → is_among n ms ≡ false) → (xs ys : List (Entry ℕ)) → AllAmong ns xs → AllAmong ms ys
    → Told xs → Told ys → Told (xs ++ ys)
told_append ns ms own [] ys h k t u = u
told_append ns ms own (x ∷ xs) ys h k t u = (
  t.0,
  differs_append x xs ys t.1 (differs_by_number ms x ys (own (number_of x.item) h.0) k),
  told_append ns ms own xs ys h.1 k t.2 u,
)

-- ---- by their parts: the entries of one node
and_neither : (a b : Bool) → b ≡ false → (a && b) ≡ false
and_neither true b h = h
and_neither false b h = refl

and_both : (a b : Bool) → a ≡ true → b ≡ true → (a && b) ≡ true
and_both true b h g = g
and_both false b h g = absurd (cc)

same_itself : (p : Part) → same_part p p ≡ true
same_itself part.Itself = refl
same_itself (part.Attribute n) = eq-eqb n n refl
same_itself (part.Namespace n) = eq-eqb n n refl

ref_itself : (e : Entry ℕ) → same_ref (ref_of e) (ref_of e) ≡ true
ref_itself e = and_both (number_of e.item == number_of e.item) _ (eq-eqb _ _ refl) (same_itself (ref_of e).part)

-- the part is no namespace node from this number on; no attribute from this number on
abbrev NoNamespace : ℕ → Part → Type 0
NoNamespace s part.Itself = Unit {0}
NoNamespace s (part.Attribute n) = Unit {0}
NoNamespace s (part.Namespace n) = n < s

abbrev NoAttribute : ℕ → Part → Type 0
NoAttribute s part.Itself = Unit {0}
NoAttribute s (part.Attribute n) = n < s
NoAttribute s (part.Namespace n) = Unit {0}

less_apart : (m n : ℕ) → m < n → ((m == n) ≡ false) × ((n == m) ≡ false)
less_apart m n h = (by (m == n) refl, turned (n == m) refl)
  where
    by : (b : Bool) → (m == n) ≡ b → b ≡ false
    by true e = absurd (let is = (Decides-eqb m n).0 e in omega arith)
    by false e = refl

    turned : (b : Bool) → (n == m) ≡ b → b ≡ false
    turned true e = absurd (let is = (Decides-eqb n m).0 e in omega arith)
    turned false e = refl

no_namespace_same : (p : Part) (s : ℕ) → NoNamespace s p → (same_part p (part.Namespace s) ≡ false) × (same_part (part.Namespace s) p ≡ false)
no_namespace_same part.Itself s h = (refl, refl)
no_namespace_same (part.Attribute n) s h = (refl, refl)
no_namespace_same (part.Namespace n) s h = less_apart n s h

no_attribute_same : (p : Part) (s : ℕ) → NoAttribute s p → (same_part p (part.Attribute s) ≡ false) × (same_part (part.Attribute s) p ≡ false)
no_attribute_same part.Itself s h = (refl, refl)
no_attribute_same (part.Attribute n) s h = less_apart n s h
no_attribute_same (part.Namespace n) s h = (refl, refl)

no_namespace_later : (p : Part) (s : ℕ) → NoNamespace s p → NoNamespace (s + 1) p
no_namespace_later part.Itself s h = tt
no_namespace_later (part.Attribute n) s h = tt
no_namespace_later (part.Namespace n) s h = omega arith

no_attribute_later : (p : Part) (s : ℕ) → NoAttribute s p → NoAttribute (s + 1) p
no_attribute_later part.Itself s h = tt
no_attribute_later (part.Attribute n) s h = omega arith
no_attribute_later (part.Namespace n) s h = tt

differs_from_namespaces : (e : Entry ℕ) (positions : List ℕ) (node : Found ℕ) (s : ℕ) (ns : List (List ℕ × List ℕ)) → NoNamespace s (ref_of e).part
    → Differs e (namespace_entries positions node s ns)
differs_from_namespaces e positions node s [] h = tt
differs_from_namespaces e positions node s (n ∷ ns) h =
    let other = no_namespace_same (ref_of e).part s h in (
      and_neither (number_of e.item == node.label) _ other.0,
      and_neither (node.label == number_of e.item) _ other.1,
      differs_from_namespaces e positions node (s + 1) ns (no_namespace_later (ref_of e).part s h),
    )

differs_from_attributes : (e : Entry ℕ) (positions : List ℕ) (node : Found ℕ) (s : ℕ) (xs : List Written) → NoAttribute s (ref_of e).part
    → Differs e (attribute_entries positions node s xs)
differs_from_attributes e positions node s [] h = tt
differs_from_attributes e positions node s (x ∷ xs) h =
    let other = no_attribute_same (ref_of e).part s h in (
      and_neither (number_of e.item == node.label) _ other.0,
      and_neither (node.label == number_of e.item) _ other.1,
      differs_from_attributes e positions node (s + 1) xs (no_attribute_later (ref_of e).part s h),
    )

abbrev attribute_entry : List ℕ → Found ℕ → ℕ → Written → Entry ℕ
attribute_entry positions node number x =
    record { place = record { positions = positions; ending = AtAttribute number }; number = number; item = AttributeNode node x }

abbrev namespace_entry : List ℕ → Found ℕ → ℕ → List ℕ × List ℕ → Entry ℕ
namespace_entry positions node number n =
    record { place = record { positions = positions; ending = AtNamespace n.0 }; number = number; item = NamespaceNode node n.0 n.1 }

abbrev own_entry : List ℕ → Found ℕ → Entry ℕ
own_entry positions node = record { place = record { positions = positions; ending = Itself }; number = 0; item = TreeNode node }

attributes_told : (positions : List ℕ) (node : Found ℕ) (s : ℕ) (xs : List Written) → Told (attribute_entries positions node s xs)
attributes_told positions node s [] = tt
attributes_told positions node s (x ∷ xs) = (
  and_both (node.label == node.label) _ (eq-eqb node.label node.label refl) (eq-eqb s s refl),
  differs_from_attributes (attribute_entry positions node s x) positions node (s + 1) xs (let next : s < s + 1 = omega arith in next),
  attributes_told positions node (s + 1) xs,
)

parts_told : (positions : List ℕ) (node : Found ℕ) (s : ℕ) (ns : List (List ℕ × List ℕ)) (xs : List Written)
    → Told (namespace_entries positions node s ns ++ attribute_entries positions node 1 xs)
parts_told positions node s [] xs = attributes_told positions node 1 xs
parts_told positions node s (n ∷ ns) xs = (
  and_both (node.label == node.label) _ (eq-eqb node.label node.label refl) (eq-eqb s s refl),
  differs_append (namespace_entry positions node s n) (namespace_entries positions node (s + 1) ns) (attribute_entries positions node 1 xs)
      (differs_from_namespaces (namespace_entry positions node s n) positions node (s + 1) ns (let next : s < s + 1 = omega arith in next))
      (differs_from_attributes (namespace_entry positions node s n) positions node 1 xs tt),
  parts_told positions node (s + 1) ns xs,
)

own_told : (positions : List ℕ) (node : Found ℕ) → Told (own_entries positions node)
own_told positions node = (
  and_both (node.label == node.label) _ (eq-eqb node.label node.label refl) refl,
  differs_append (own_entry positions node) (namespace_entries positions node 1 (namespaces_of node))
      (attribute_entries positions node 1 (attributes_of node))
      (differs_from_namespaces (own_entry positions node) positions node 1 (namespaces_of node) tt)
      (differs_from_attributes (own_entry positions node) positions node 1 (attributes_of node) tt),
  parts_told positions node 1 (namespaces_of node) (attributes_of node),
)

-- ---- the entries of siblings
namespaces_among : (positions : List ℕ) (node : Found ℕ) (s : ℕ) (ns : List (List ℕ × List ℕ)) (ms : List ℕ) → is_among node.label ms ≡ true
    → AllAmong ms (namespace_entries positions node s ns)
namespaces_among positions node s [] ms h = tt
namespaces_among positions node s (n ∷ ns) ms h = (h, namespaces_among positions node (s + 1) ns ms h)

attributes_among : (positions : List ℕ) (node : Found ℕ) (s : ℕ) (xs : List Written) (ms : List ℕ) → is_among node.label ms ≡ true
    → AllAmong ms (attribute_entries positions node s xs)
attributes_among positions node s [] ms h = tt
attributes_among positions node s (x ∷ xs) ms h = (h, attributes_among positions node (s + 1) xs ms h)

own_among : (positions : List ℕ) (node : Found ℕ) → AllAmong (node.label ∷ []) (own_entries positions node)
own_among positions node =
    let is : is_among node.label (node.label ∷ []) ≡ true = or_left (node.label == node.label) false (eq-eqb node.label node.label refl) in (
      is,
      among_append (node.label ∷ []) (namespace_entries positions node 1 (namespaces_of node)) _
          (namespaces_among positions node 1 (namespaces_of node) (node.label ∷ []) is)
          (attributes_among positions node 1 (attributes_of node) (node.label ∷ []) is),
    )

siblings_among : (above : List Content) (parent : List ℕ) (position : ℕ) (f : Forest ℕ) → AllAmong (labels f) (entries_in above parent position f)
siblings_among above parent position Empty = tt
siblings_among above parent position (Node l c f g) =
    let node = found_in above l c f in
    let here = parent ++ position ∷ [] in
    among_append (l ∷ labels f ++ labels g) (own_entries here node ++ entries_in (c ∷ above) here 1 f) _
    (among_append (l ∷ labels f ++ labels g) (own_entries here node) _
    (among_left (l ∷ []) (labels f ++ labels g) (own_entries here node) (own_among here node))
    (among_right (l ∷ []) (labels f ++ labels g) _ (among_left (labels f) (labels g) _ (siblings_among (c ∷ above) here 1 f))))
    (among_right (l ∷ []) (labels f ++ labels g) _ (among_right (labels f) (labels g) _ (siblings_among above parent (position + 1) g)))

-- a number that stands alone in front
front_alone : (l n : ℕ) (ns : List ℕ) → is_among l ns ≡ false → is_among n (l ∷ []) ≡ true → is_among n ns ≡ false
front_alone l n ns h k = by (l == n) refl k
  where
    by : (b : Bool) → (l == n) ≡ b → (b || false) ≡ true → is_among n ns ≡ false
    by true e k = ap (λ x. is_among x ns) (sym ((Decides-eqb l n).0 e)) ∙ h
    by false e k = absurd (cc)

-- what is in the first list is not in the second
not_behind : (xs ys : List ℕ) (n : ℕ) → are_distinct (xs ++ ys) ≡ true → is_among n xs ≡ true → is_among n ys ≡ false
not_behind xs ys n h k = by (is_among n ys) refl
  where
    by : (b : Bool) → is_among n ys ≡ b → b ≡ false
    by true e = absurd (apart (is_among n xs) k (not_before xs ys n h e))
    by false e = refl

siblings_told : (above : List Content) (parent : List ℕ) (position : ℕ) (f : Forest ℕ) → are_distinct (labels f) ≡ true
    → Told (entries_in above parent position f)
siblings_told above parent position Empty h = tt
siblings_told above parent position (Node l c f g) h =
    let node = found_in above l c f in
    let here = parent ++ position ∷ [] in
    let parts = and_parts (not (is_among l (labels f ++ labels g))) (are_distinct (labels f ++ labels g)) h in
    let both = distinct_parts (labels f) (labels g) parts.1 in
    let front : (n : ℕ) → is_among n (l ∷ []) ≡ true → is_among n (labels f ++ labels g) ≡ false =
    λ n k. front_alone l n (labels f ++ labels g) (not_false _ parts.0) k in
    let inner = siblings_among (c ∷ above) here 1 f in
    let rest = siblings_among above parent (position + 1) g in
    let first : (n : ℕ) → is_among n (l ∷ labels f) ≡ true → is_among n (labels g) ≡ false = λ n k. not_behind (l ∷ labels f) (labels g) n h k in
    let children : (n : ℕ) → is_among n (l ∷ []) ≡ true → is_among n (labels f) ≡ false =
    λ n k. not_behind (l ∷ []) (labels f) n (distinct_parts (l ∷ labels f) (labels g) h).0 k in
    told_append (l ∷ labels f) (labels g) first (own_entries here node ++ entries_in (c ∷ above) here 1 f) _
    (among_append (l ∷ labels f) (own_entries here node) (entries_in (c ∷ above) here 1 f)
    (among_left (l ∷ []) (labels f) (own_entries here node) (own_among here node)) (among_right (l ∷ []) (labels f) (entries_in (c ∷ above) here 1 f) inner))
    rest
    (told_append (l ∷ []) (labels f) children (own_entries here node) _ (own_among here node) inner (own_told here node)
    (siblings_told (c ∷ above) here 1 f both.0))
    (siblings_told above parent (position + 1) g both.1)

pub all_told : (document : Document ℕ) → IsNumbered document → Told (entries_of document)
all_told document numbered =
    let distinct = (and_parts (are_distinct (document.root ∷ labels document.nodes)) _ numbered).0 in
    let parts = and_parts (not (is_among document.root (labels document.nodes))) (are_distinct (labels document.nodes)) distinct in
    told_append (document.root ∷ []) (labels document.nodes) (λ n k. front_alone document.root n (labels document.nodes) (not_false _ parts.0) k)
    (own_entries [] (root_of document)) _ (own_among [] (root_of document)) (siblings_among [] [] 1 document.nodes)
    (own_told [] (root_of document)) (siblings_told [] [] 1 document.nodes parts.1)
