-- Each entry of the listing stands where its place says, and each node is listed.
use Rattle.std.proofs.Common.{◌≡◌, ◌≤◌, ℕ, ◌+◌, ◌-◌, ◌==◌, Bool, true, false, cond, zero, suc, List, [], ◌∷◌}
use Rattle.std.proofs.Common.{◌++◌, Option, None, Some, refl, sym, ap, ◌∙◌, subst, arith, eq-eqb}
use Rattle.std.specs.Prelude.{map, ◌&&◌, ◌||◌}
use Rattle.std.specs.Option.{option_map, option_and_then}
use Rattle.std.specs.List.{list_any, find}
use Rattle.std.proofs.lemmas.Bool.{eqb-true}
use Rattle.std.proofs.lemmas.List.Folds.{list_any-append}
use Rattle.spec_document.specs.Forest.{Written, Content, Forest, Empty, Node}
use Rattle.spec_document.specs.Place.{Ending, Itself, AtAttribute, AtNamespace, Found, found_in, child_at, node_from, at_number, attributes_of}
use Rattle.spec_document.specs.Place.{namespaces_of, Item, AttributeNode, NamespaceNode, attribute_at, namespace_at}
use Rattle.spec_document.specs.Order.{Entry, namespace_entries, attribute_entries, own_entries, entries_in}
use Rattle.xt_tree.specs.View.{part_of}
use Rattle.spec_node.specs.declared.node_ref.NodeRef.{NodeRef}
use Rattle.spec_node.specs.declared.node_ref.Part.{Part}
use Rattle.spec_node.specs.declared.node_ref.Part.TheVariants as part
use Rattle.spec_node.specs.Naming.{ref_of, number_of, part_at, same_ref, same_part}
use Rattle.xp_axes.proofs.Picked.{under, listing, listed_node}

abbrev pub IsEnding : Found ℕ → Ending → ℕ → Type 0
IsEnding element Itself number = Unit {0}
IsEnding element (AtAttribute position) number = position ≡ number
IsEnding element (AtNamespace prefix) number = option_map (λ n. n.0) (at_number number (namespaces_of element)) ≡ Some prefix

-- an entry of what is listed from a node on
pub record IsAt (node : Found ℕ) (e : Entry ℕ) : Type 0 where
  pub element : Found ℕ
  pub at : node_from e.place.positions node ≡ Some element
  pub number : number_of e.item ≡ element.label
  pub part : part_of (part_at e.place.ending e.number) element ≡ Some e.item
  pub ending : IsEnding element e.place.ending e.number

abbrev pub AllAt : Found ℕ → List (Entry ℕ) → Type 0
AllAt node [] = Unit {0}
AllAt node (e ∷ es) = IsAt node e × AllAt node es

all_append : (node : Found ℕ) (xs ys : List (Entry ℕ)) → AllAt node xs → AllAt node ys → AllAt node (xs ++ ys)
all_append node [] ys h g = g
all_append node (x ∷ xs) ys h g = (h.0, all_append node xs ys h.1 g)

all_under : (node child : Found ℕ) (n : ℕ) → child_at node.above node.children n ≡ Some child → (es : List (Entry ℕ)) → AllAt child es
    → AllAt node (map (under n) es)
all_under node child n at [] h = tt
all_under node child n at (e ∷ es) h = (
  record {
    element = h.0.element;
    at = ap (option_and_then (node_from e.place.positions)) at ∙ h.0.at;
    number = h.0.number;
    part = h.0.part;
    ending = h.0.ending;
  },
  all_under node child n at es h.1,
)

two : (n : ℕ) → (1 + (1 + n) == 1) ≡ false
two n = elim (1 + (1 + n) == 1) as (λ t. (1 + (1 + n) == 1) ≡ t → t ≡ false)
    [ true ↦ λ e. absurd (let is : 1 + (1 + n) ≡ 1 = eqb-true (1 + (1 + n)) 1 e in omega arith) | false ↦ λ e. refl ] refl

-- one further in a list
at_next : {A : Type 0} (x : A) (xs : List A) (j : ℕ) → at_number (1 + (1 + j)) (x ∷ xs) ≡ at_number (1 + j) xs
at_next x xs j =
    let back : 1 + (1 + j) - 1 ≡ 1 + j = omega arith in
    ap (λ t. cond t (Some x) (at_number (1 + (1 + j) - 1) xs)) (two j) ∙ ap (λ n. at_number n xs) back

further : {B : Type 0} (f : ℕ → B) (g : ℕ → B) (s : ℕ) → ((j : ℕ) → f (s + j) ≡ g (1 + j)) → (j : ℕ)
    → f (s + 1 + j) ≡ g (1 + (1 + j))
further f g s h j = let same : s + 1 + j ≡ s + (1 + j) = omega arith in ap f same ∙ h (1 + j)

at_first : {B : Type 0} (f : ℕ → B) (g : ℕ → B) (s : ℕ) → ((j : ℕ) → f (s + j) ≡ g (1 + j)) → f s ≡ g 1
at_first f g s h =
    let same : s ≡ s + 0 = omega arith in
    let first : 1 + 0 ≡ 1 = omega arith in
    ap f same ∙ h 0 ∙ ap g first

namespaces_at : (node : Found ℕ) (s : ℕ) (ns : List (List ℕ × List ℕ))
    → ((j : ℕ) → at_number (s + j) (namespaces_of node) ≡ at_number (1 + j) ns)
    → AllAt node (namespace_entries [] node s ns)
namespaces_at node s [] h = tt
namespaces_at node s (n ∷ ns) h =
    let here : at_number s (namespaces_of node) ≡ Some n = at_first (λ k. at_number k (namespaces_of node)) (λ k. at_number k (n ∷ ns)) s h in (
      record {
        element = node;
        at = refl;
        number = refl;
        part = ap (option_map (λ (m : List ℕ × List ℕ). NamespaceNode node m.0 m.1)) here;
        ending = ap (option_map (λ (m : List ℕ × List ℕ). m.0)) here;
      },
      namespaces_at node (s + 1) ns (λ j. further (λ k. at_number k (namespaces_of node)) (λ k. at_number k (n ∷ ns)) s h j ∙ at_next n ns j),
    )

attributes_at : (node : Found ℕ) (s : ℕ) (xs : List Written) → ((j : ℕ) → at_number (s + j) (attributes_of node) ≡ at_number (1 + j) xs)
    → AllAt node (attribute_entries [] node s xs)
attributes_at node s [] h = tt
attributes_at node s (a ∷ xs) h =
    let here : at_number s (attributes_of node) ≡ Some a = at_first (λ k. at_number k (attributes_of node)) (λ k. at_number k (a ∷ xs)) s h in (
      record { element = node; at = refl; number = refl; part = ap (option_map (AttributeNode node)) here; ending = refl },
      attributes_at node (s + 1) xs (λ j. further (λ k. at_number k (attributes_of node)) (λ k. at_number k (a ∷ xs)) s h j ∙ at_next a xs j),
    )

own_at : (node : Found ℕ) → AllAt node (own_entries [] node)
own_at node = (
  record { element = node; at = refl; number = refl; part = refl; ending = tt },
  all_append node (namespace_entries [] node 1 (namespaces_of node)) (attribute_entries [] node 1 (attributes_of node))
      (namespaces_at node 1 (namespaces_of node) (λ j. refl)) (attributes_at node 1 (attributes_of node) (λ j. refl)),
)

child_next : (above : List Content) (l : ℕ) (c : Content) (f g : Forest ℕ) (j : ℕ)
    → child_at above (Node l c f g) (1 + (1 + j)) ≡ child_at above g (1 + j)
child_next above l c f g j =
    let back : 1 + (1 + j) - 1 ≡ 1 + j = omega arith in
    ap (λ t. cond t (Some (found_in above l c f)) (child_at above g (1 + (1 + j) - 1))) (two j) ∙ ap (child_at above g) back

children_at : (node : Found ℕ) (k : ℕ) (f : Forest ℕ) → ((j : ℕ) → child_at node.above node.children (k + j) ≡ child_at node.above f (1 + j))
    → AllAt node (entries_in node.above [] k f)
children_at node k Empty h = tt
children_at node k (Node l c f g) h =
    let child : Found ℕ = found_in node.above l c f in
    let here : child_at node.above node.children k ≡ Some child = at_first (child_at node.above node.children) (child_at node.above (Node l c f g)) k h in
    let inner = all_append child (own_entries [] child) (entries_in (c ∷ node.above) [] 1 f) (own_at child) (children_at child 1 f (λ j. refl)) in
    let later = children_at node (k + 1) g
    (λ j. further (child_at node.above node.children) (child_at node.above (Node l c f g)) k h j ∙ child_next node.above l c f g j) in
    subst (AllAt node) (sym (listed_node node.above k l c f g))
    (all_append node (map (under k) (listing child)) (entries_in node.above [] (k + 1) g) (all_under node child k here (listing child) inner) later)

pub all_at : (node : Found ℕ) → AllAt node (listing node)
all_at node = all_append node (own_entries [] node) (entries_in node.above [] 1 node.children) (own_at node) (children_at node 1 node.children (λ j. refl))

-- ---- Each node is listed

abbrev pub has : NodeRef → List (Entry ℕ) → Bool
has r es = list_any (λ e. same_ref r (ref_of e)) es

pub has_under : (r : NodeRef) (n : ℕ) (es : List (Entry ℕ)) → has r (map (under n) es) ≡ has r es
has_under r n [] = refl
has_under r n (e ∷ es) = ap (λ b. same_ref r (ref_of e) || b) (has_under r n es)

or_left : (a b : Bool) → a ≡ true → (a || b) ≡ true
or_left true b h = refl
or_left false b h = absurd (cc)

or_right : (a b : Bool) → b ≡ true → (a || b) ≡ true
or_right true b h = refl
or_right false b h = h

pub has_left : (r : NodeRef) (xs ys : List (Entry ℕ)) → has r xs ≡ true → has r (xs ++ ys) ≡ true
has_left r xs ys h = list_any-append (λ e. same_ref r (ref_of e)) xs ys ∙ or_left (has r xs) (has r ys) h

pub has_right : (r : NodeRef) (xs ys : List (Entry ℕ)) → has r ys ≡ true → has r (xs ++ ys) ≡ true
has_right r xs ys h = list_any-append (λ e. same_ref r (ref_of e)) xs ys ∙ or_right (has r xs) (has r ys) h

both_true : (a b : Bool) → a ≡ true → b ≡ true → (a && b) ≡ true
both_true true b h g = g
both_true false b h g = absurd (cc)

same_own : (r : NodeRef) (p : Part) (l : ℕ) → r.node.number ≡ l → same_part r.part p ≡ true
    → same_ref r (record { node = record { number = l }; part = p }) ≡ true
same_own r p l e h = both_true (r.node.number == l) (same_part r.part p) (eq-eqb r.node.number l e) h

has_attribute : (r : NodeRef) (node : Found ℕ) (j s t : ℕ) (xs : List Written) (a : Written) → r.node.number ≡ node.label
    → r.part ≡ part.Attribute j → j ≡ s + t
    → at_number (1 + t) xs ≡ Some a → has r (attribute_entries [] node s xs) ≡ true
has_attribute r node j s t [] a e g is h = absurd (cc)
has_attribute r node j s zero (x ∷ xs) a e g is h =
    let same : (j == s) ≡ true = eq-eqb j s (omega arith) in
    or_left _ _ (same_own r (part.Attribute s) node.label e (ap (λ p. same_part p (part.Attribute s)) g ∙ same))
has_attribute r node j s (suc t) (x ∷ xs) a e g is h =
    let more : suc t ≡ 1 + t = omega arith in
    let next : at_number (1 + t) xs ≡ Some a = sym (at_next x xs t) ∙ ap (λ n. at_number (1 + n) (x ∷ xs)) (sym more) ∙ h in
    or_right _ _ (has_attribute r node j (s + 1) t xs a e g (omega arith) next)

has_namespace : (r : NodeRef) (node : Found ℕ) (j s t : ℕ) (xs : List (List ℕ × List ℕ)) (a : List ℕ × List ℕ)
    → r.node.number ≡ node.label → r.part ≡ part.Namespace j → j ≡ s + t
    → at_number (1 + t) xs ≡ Some a → has r (namespace_entries [] node s xs) ≡ true
has_namespace r node j s t [] a e g is h = absurd (cc)
has_namespace r node j s zero (x ∷ xs) a e g is h =
    let same : (j == s) ≡ true = eq-eqb j s (omega arith) in
    or_left _ _ (same_own r (part.Namespace s) node.label e (ap (λ p. same_part p (part.Namespace s)) g ∙ same))
has_namespace r node j s (suc t) (x ∷ xs) a e g is h =
    let more : suc t ≡ 1 + t = omega arith in
    let next : at_number (1 + t) xs ≡ Some a = sym (at_next x xs t) ∙ ap (λ n. at_number (1 + n) (x ∷ xs)) (sym more) ∙ h in
    or_right _ _ (has_namespace r node j (s + 1) t xs a e g (omega arith) next)

at_zero : {A : Type 0} (xs : List A) → at_number 0 xs ≡ None
at_zero [] = refl
at_zero (x ∷ xs) = at_zero xs

mapped : {A B : Type 0} (f : A → B) (o : Option A) (y : B) → option_map f o ≡ Some y → (x : A) × (o ≡ Some x)
mapped f None y h = absurd (cc)
mapped f (Some x) y h = (x, refl)

pub counted : {A : Type 0} (xs : List A) (j : ℕ) (a : A) → at_number j xs ≡ Some a → 1 ≤ j
counted xs zero a h = absurd (let e = sym (at_zero xs) ∙ h in cc)
counted xs (suc j) a h = omega arith

pub attribute_there : (node : Found ℕ) (j : ℕ) (item : Item ℕ) → attribute_at node j ≡ Some item
    → (a : Written) × (at_number j (attributes_of node) ≡ Some a)
attribute_there node j item h = mapped (AttributeNode node) (at_number j (attributes_of node)) item h

pub namespace_there : (node : Found ℕ) (j : ℕ) (item : Item ℕ) → namespace_at node j ≡ Some item
    → (n : List ℕ × List ℕ) × (at_number j (namespaces_of node) ≡ Some n)
namespace_there node j item h = mapped (λ n. NamespaceNode node n.0 n.1) (at_number j (namespaces_of node)) item h

pub has_own : (r : NodeRef) (p : Part) (node : Found ℕ) (item : Item ℕ) → r.part ≡ p → r.node.number ≡ node.label → part_of p node ≡ Some item
    → has r (own_entries [] node) ≡ true
has_own r part.Itself node item g e h = or_left _ _ (same_own r part.Itself node.label e (ap (λ p. same_part p part.Itself) g))
has_own r (part.Attribute j) node item g e h =
    let a = attribute_there node j item h in
    let lt : 1 ≤ j = counted (attributes_of node) j a.0 a.1 in
    let index : 1 + (j - 1) ≡ j = omega arith in
    or_right _ _ (has_right r (namespace_entries [] node 1 (namespaces_of node)) _
    (has_attribute r node j 1 (j - 1) (attributes_of node) a.0 e g (omega arith) (ap (λ n. at_number n (attributes_of node)) index ∙ a.1)))
has_own r (part.Namespace j) node item g e h =
    let a = namespace_there node j item h in
    let lt : 1 ≤ j = counted (namespaces_of node) j a.0 a.1 in
    let index : 1 + (j - 1) ≡ j = omega arith in
    or_right _ _ (has_left r (namespace_entries [] node 1 (namespaces_of node)) _
    (has_namespace r node j 1 (j - 1) (namespaces_of node) a.0 e g (omega arith) (ap (λ n. at_number n (namespaces_of node)) index ∙ a.1)))

some_same : {A : Type 0} (x y : A) → Some x ≡ Some y → x ≡ y
some_same x y e = ap (λ o. elim o [ Some z ↦ z | None ↦ x ]) e

has_below : (r : NodeRef) (above : List Content) (k p : ℕ) (f : Forest ℕ) (child : Found ℕ) → child_at above f p ≡ Some child
    → has r (listing child) ≡ true
    → has r (entries_in above [] k f) ≡ true
has_below r above k p Empty child at h = absurd (cc)
has_below r above k p (Node l c f g) child at h =
    ap (has r) (listed_node above k l c f g)
    ∙ (elim (p == 1) as (λ t. cond t (Some (found_in above l c f)) (child_at above g (p - 1)) ≡ Some child
    → has r (map (under k) (listing (found_in above l c f)) ++ entries_in above [] (k + 1) g) ≡ true) [
      | true ↦ λ e.
          let same = some_same (found_in above l c f) child e in
          has_left r (map (under k) (listing (found_in above l c f))) _
          (has_under r k (listing (found_in above l c f)) ∙ ap (λ n. has r (listing n)) same ∙ h)
      | false ↦ λ e. has_right r (map (under k) (listing (found_in above l c f))) _ (has_below r above (k + 1) (p - 1) g child e h)
    ] at)

down : (r : NodeRef) (node target : Found ℕ) (n : ℕ) (ns : List ℕ) (o : Option (Found ℕ)) → child_at node.above node.children n ≡ o
    → ((child : Found ℕ) → node_from ns child ≡ Some target → has r (listing child) ≡ true) → option_and_then (node_from ns) o ≡ Some target
    → has r (listing node) ≡ true
down r node target n ns None at below h = absurd (cc)
down r node target n ns (Some child) at below h =
    has_right r (own_entries [] node) _ (has_below r node.above 1 n node.children child at (below child h))

pub is_listed : (r : NodeRef) (target : Found ℕ) (item : Item ℕ) → r.node.number ≡ target.label → part_of r.part target ≡ Some item
    → (ns : List ℕ) (node : Found ℕ) → node_from ns node ≡ Some target → has r (listing node) ≡ true
is_listed r target item e h [] node is =
    has_left r (own_entries [] node) _
    (subst (λ n. has r (own_entries [] n) ≡ true) (sym (some_same node target is)) (has_own r r.part target item refl e h))
is_listed r target item e h (n ∷ ns) node is =
    down r node target n ns (child_at node.above node.children n) refl (λ child g. is_listed r target item e h ns child g) is

-- the first of a name
pub record IsFirst (node : Found ℕ) (r : NodeRef) (es : List (Entry ℕ)) : Type 0 where
  pub entry : Entry ℕ
  pub first : find (λ e. same_ref r (ref_of e)) es ≡ Some entry
  pub same : same_ref r (ref_of entry) ≡ true
  pub at : IsAt node entry

pub found_first : (node : Found ℕ) (r : NodeRef) (es : List (Entry ℕ)) → AllAt node es → has r es ≡ true → IsFirst node r es
found_first node r [] h g = absurd (cc)
found_first node r (e ∷ es) h g = by (same_ref r (ref_of e)) refl (λ k. found_first node r es h.1 k)
  where
    by : (b : Bool) → same_ref r (ref_of e) ≡ b → (has r es ≡ true → IsFirst node r es) → IsFirst node r (e ∷ es)
    by true is more = record {
      entry = e;
      first = ap (λ b. cond b (Some e) (find (λ e. same_ref r (ref_of e)) es)) is;
      same = is;
      at = h.0;
    }
    by false is more =
        let rest = more (sym (ap (λ b. b || has r es) is) ∙ g) in
        record {
          entry = rest.entry;
          first = ap (λ b. cond b (Some e) (find (λ e. same_ref r (ref_of e)) es)) is ∙ rest.first;
          same = rest.same;
          at = rest.at;
        }
