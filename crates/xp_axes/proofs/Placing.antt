-- The order by paths is that of the listing.
use Rattle.std.proofs.Common.{◌≡◌, ◌≤◌, ◌<◌, ℕ, ◌+◌, List, [], ◌∷◌, ◌++◌, refl, sym, ap, ◌∙◌, subst, arith}
use Rattle.std.specs.Prelude.{map}
use Rattle.std.specs.List.{AllByRecursion}
use Rattle.std.specs.List.Sorted.{IsStrictlySortedBy}
use Rattle.std.specs.Ordering.{nat_cmp, ordering_then}
use Rattle.std.specs.declared.cmp.Ordering.{Ordering}
use Rattle.std.specs.declared.cmp.Ordering.TheVariants.{Less, Equal, Greater}
use Rattle.std.specs.Cmp.{IsTotalOrder, nat_cmp_total, on_total, then_total, tied_itself}
use Rattle.std.specs.Cmp.Lexicographic.{slice_cmp, on_texts}
use Rattle.std.specs.FinMap.{nat_cmp-IsAntisymmetric, slice_cmp-IsAntisymmetric}
use Rattle.spec_document.specs.Forest.{Written, Content, Forest, Empty, Node, Document}
use Rattle.spec_document.specs.Place.{Found, found_in, root_of, attributes_of, namespaces_of}
use Rattle.spec_document.specs.Order.{Entry, namespace_entries, attribute_entries, own_entries, entries_in, entries_of}
use Rattle.spec_document.proofs.Listed.{less-number}
use Rattle.xt_tree.specs.View.{itself}
use Rattle.spec_node.specs.declared.node_ref.Part.{Part}
use Rattle.spec_node.specs.declared.node_ref.Part.TheVariants as part
use Rattle.xp_axes.specs.Placed.{Placed, rank, part_cmp, placed_cmp, placed_of}
use Rattle.xp_axes.proofs.Picked.{under, listing, listed_node, map_append}

-- ---- A total order, in which only the same compare equal

pub placed_total : IsTotalOrder placed_cmp
placed_total =
    then_total
    (then_total (on_texts (λ (p : Placed). p.path))
    (then_total (on_total (λ (p : Placed). (rank p.node.part).0) nat_cmp_total) (on_total (λ (p : Placed). (rank p.node.part).1) nat_cmp_total)))
    (on_total (λ (p : Placed). p.node.node.number) nat_cmp_total)

both_equal : (a b : Ordering) → ordering_then a b ≡ Equal → (a ≡ Equal) × (b ≡ Equal)
both_equal Less b e = absurd (cc)
both_equal Equal b e = (refl, e)
both_equal Greater b e = absurd (cc)

rank_same : (p q : Part) → (rank p).0 ≡ (rank q).0 → (rank p).1 ≡ (rank q).1 → p ≡ q
rank_same part.Itself part.Itself d e = refl
rank_same (part.Namespace m) (part.Namespace n) d e = ap part.Namespace e
rank_same (part.Attribute m) (part.Attribute n) d e = ap part.Attribute e
rank_same part.Itself (part.Namespace n) d e = absurd (omega arith)
rank_same part.Itself (part.Attribute n) d e = absurd (omega arith)
rank_same (part.Namespace m) part.Itself d e = absurd (omega arith)
rank_same (part.Namespace m) (part.Attribute n) d e = absurd (omega arith)
rank_same (part.Attribute m) part.Itself d e = absurd (omega arith)
rank_same (part.Attribute m) (part.Namespace n) d e = absurd (omega arith)

pub placed_same : (p q : Placed) → placed_cmp p q ≡ Equal → p ≡ q
placed_same p q e =
    let all = both_equal (ordering_then (slice_cmp nat_cmp p.path q.path) (part_cmp p.node.part q.node.part)) _ e in
    let place = both_equal (slice_cmp nat_cmp p.path q.path) (part_cmp p.node.part q.node.part) all.0 in
    let ranks = both_equal (nat_cmp (rank p.node.part).0 (rank q.node.part).0) _ place.1 in
    let path = slice_cmp-IsAntisymmetric nat_cmp-IsAntisymmetric p.path q.path place.0 in
    let own = rank_same p.node.part q.node.part (nat_cmp-IsAntisymmetric _ _ ranks.0) (nat_cmp-IsAntisymmetric _ _ ranks.1) in
    let number = nat_cmp-IsAntisymmetric p.node.node.number q.node.node.number all.1 in
    λ i. record { path = path i; node = record { node = record { number = number i }; part = own i } }

-- ---- What comes first

first_then : (a b : Ordering) → a ≡ Less → ordering_then a b ≡ Less
first_then Less b e = refl
first_then Equal b e = absurd (cc)
first_then Greater b e = absurd (cc)

second_then : (a b : Ordering) → a ≡ Equal → b ≡ Less → ordering_then a b ≡ Less
second_then Less b d e = absurd (cc)
second_then Equal b d e = e
second_then Greater b d e = absurd (cc)

same_number : (m n : ℕ) → m ≡ n → nat_cmp m n ≡ Equal
same_number m n e = ap (nat_cmp m) (sym e) ∙ tied_itself nat_cmp_total m

abbrev Stands : Placed → Placed → Type 0
Stands p q = placed_cmp p q ≡ Less

by_rank : (p q : Placed) → p.path ≡ [] → q.path ≡ [] → (rank p.node.part).0 < (rank q.node.part).0 → Stands p q
by_rank p q d e h =
    first_then _ _ (second_then _ _ (λ i. slice_cmp nat_cmp (d i) (e i)) (first_then _ _ (less-number _ _ h)))

by_number : (p q : Placed) → p.path ≡ [] → q.path ≡ [] → (rank p.node.part).0 ≡ (rank q.node.part).0
    → (rank p.node.part).1 < (rank q.node.part).1 → Stands p q
by_number p q d e same h =
    first_then _ _ (second_then _ _ (λ i. slice_cmp nat_cmp (d i) (e i)) (second_then _ _ (same_number _ _ same) (less-number _ _ h)))

by_depth : (p q : Placed) (n : ℕ) (ns : List ℕ) → p.path ≡ [] → q.path ≡ n ∷ ns → Stands p q
by_depth p q n ns d e = first_then _ _ (first_then _ _ (λ i. slice_cmp nat_cmp (d i) (e i)))

by_child : (p q : Placed) (m n : ℕ) (ms ns : List ℕ) → p.path ≡ m ∷ ms → q.path ≡ n ∷ ns → m < n → Stands p q
by_child p q m n ms ns d e h = first_then _ _ (first_then _ _ ((λ i. slice_cmp nat_cmp (d i) (e i)) ∙ first_then _ _ (less-number m n h)))

-- ---- Lists in order

abbrev pub All : (Placed → Type 0) → List Placed → Type 0
All P ps = AllByRecursion P ps

abbrev pub InOrder : List Placed → Type 0
InOrder ps = IsStrictlySortedBy placed_cmp ps

all_append : (P : Placed → Type 0) (ps qs : List Placed) → All P ps → All P qs → All P (ps ++ qs)
all_append P [] qs h g = g
all_append P (p ∷ ps) qs h g = (h.0, all_append P ps qs h.1 g)

all_wider : (P Q : Placed → Type 0) → ((p : Placed) → P p → Q p) → (ps : List Placed) → All P ps → All Q ps
all_wider P Q f [] h = tt
all_wider P Q f (p ∷ ps) h = (f p h.0, all_wider P Q f ps h.1)

none : InOrder []
unfolding IsStrictlySortedBy
none = tt

first : (p : Placed) (ps : List Placed) → All (Stands p) ps → InOrder ps → InOrder (p ∷ ps)
unfolding IsStrictlySortedBy
first p ps h g = (h, g)

joined : (P Q : Placed → Type 0) → ((p q : Placed) → P p → Q q → Stands p q) → (ps qs : List Placed) → All P ps → All Q qs
    → InOrder ps → InOrder qs → InOrder (ps ++ qs)
unfolding IsStrictlySortedBy
joined P Q less [] qs h g s t = t
joined P Q less (p ∷ ps) qs h g s t = (
  all_append (Stands p) ps qs s.0 (all_wider Q (Stands p) (λ q k. less p q h.0 k) qs g),
  joined P Q less ps qs h.1 g s.1 t,
)

-- ---- One level down

abbrev deeper : ℕ → Placed → Placed
deeper n p = record { path = n ∷ p.path; node = p.node }

deeper_cmp : (n : ℕ) (p q : Placed) → placed_cmp (deeper n p) (deeper n q) ≡ placed_cmp p q
deeper_cmp n p q =
    ap (λ o. ordering_then (ordering_then (ordering_then o (slice_cmp nat_cmp p.path q.path)) (part_cmp p.node.part q.node.part))
    (nat_cmp p.node.node.number q.node.node.number))
    (tied_itself nat_cmp_total n)

all_deeper : (n : ℕ) (p : Placed) (qs : List Placed) → All (Stands p) qs → All (Stands (deeper n p)) (map (deeper n) qs)
all_deeper n p [] h = tt
all_deeper n p (q ∷ qs) h = (deeper_cmp n p q ∙ h.0, all_deeper n p qs h.1)

order_deeper : (n : ℕ) (ps : List Placed) → InOrder ps → InOrder (map (deeper n) ps)
unfolding IsStrictlySortedBy
order_deeper n [] h = tt
order_deeper n (p ∷ ps) h = (all_deeper n p ps h.0, order_deeper n ps h.1)

placed_under : (n : ℕ) (es : List (Entry ℕ)) → map placed_of (map (under n) es) ≡ map (deeper n) (map placed_of es)
placed_under n [] = refl
placed_under n (e ∷ es) = ap (λ (ps : List Placed). deeper n (placed_of e) ∷ ps) (placed_under n es)

-- ---- A node, its namespace nodes and its attributes

-- at the node, of this kind, with this number or a later one
record IsPart (kind number : ℕ) (p : Placed) : Type 0 where
  path : p.path ≡ []
  kind_is : (rank p.node.part).0 ≡ kind
  from : number ≤ (rank p.node.part).1

later_part : (kind number : ℕ) (p : Placed) → IsPart kind (number + 1) p → IsPart kind number p
later_part kind number p h =
    let from : number + 1 ≤ (rank p.node.part).1 = h.from in
    record { path = h.path; kind_is = h.kind_is; from = omega arith }

next_part : (kind number : ℕ) (p q : Placed) → p.path ≡ [] → (rank p.node.part).0 ≡ kind → (rank p.node.part).1 ≡ number
    → IsPart kind (number + 1) q → Stands p q
next_part kind number p q path is at h =
    let from : number + 1 ≤ (rank q.node.part).1 = h.from in
    by_number p q path h.path (is ∙ sym h.kind_is) (omega arith)

namespaces_are : (node : Found ℕ) (s : ℕ) (ns : List (List ℕ × List ℕ)) → All (IsPart 1 s) (map placed_of (namespace_entries [] node s ns))
namespaces_are node s [] = tt
namespaces_are node s (n ∷ ns) = (
  record { path = refl; kind_is = refl; from = omega arith },
  all_wider (IsPart 1 (s + 1)) (IsPart 1 s) (later_part 1 s) _ (namespaces_are node (s + 1) ns),
)

namespaces_order : (node : Found ℕ) (s : ℕ) (ns : List (List ℕ × List ℕ)) → InOrder (map placed_of (namespace_entries [] node s ns))
namespaces_order node s [] = none
namespaces_order node s (n ∷ ns) =
    let p : Placed = record { path = []; node = record { node = record { number = node.label }; part = part.Namespace s } } in
    first p _ (all_wider (IsPart 1 (s + 1)) (Stands p) (λ q h. next_part 1 s p q refl refl refl h) _ (namespaces_are node (s + 1) ns))
    (namespaces_order node (s + 1) ns)

attributes_are : (node : Found ℕ) (s : ℕ) (xs : List Written) → All (IsPart 2 s) (map placed_of (attribute_entries [] node s xs))
attributes_are node s [] = tt
attributes_are node s (x ∷ xs) = (
  record { path = refl; kind_is = refl; from = omega arith },
  all_wider (IsPart 2 (s + 1)) (IsPart 2 s) (later_part 2 s) _ (attributes_are node (s + 1) xs),
)

attributes_order : (node : Found ℕ) (s : ℕ) (xs : List Written) → InOrder (map placed_of (attribute_entries [] node s xs))
attributes_order node s [] = none
attributes_order node s (x ∷ xs) =
    let p : Placed = record { path = []; node = record { node = record { number = node.label }; part = part.Attribute s } } in
    first p _ (all_wider (IsPart 2 (s + 1)) (Stands p) (λ q h. next_part 2 s p q refl refl refl h) _ (attributes_are node (s + 1) xs))
    (attributes_order node (s + 1) xs)

-- at the node; a part of it; at its child at this position, or a later one
abbrev IsHere : Placed → Type 0
IsHere p = p.path ≡ []

record IsAfter (p : Placed) : Type 0 where
  path : p.path ≡ []
  after : 0 < (rank p.node.part).0

record IsFrom (k : ℕ) (p : Placed) : Type 0 where
  position : ℕ
  below : List ℕ
  path : p.path ≡ position ∷ below
  from : k ≤ position

abbrev parts_of : Found ℕ → List Placed
parts_of node =
    map placed_of (namespace_entries [] node 1 (namespaces_of node)) ++ map placed_of (attribute_entries [] node 1 (attributes_of node))

is_after : (kind number : ℕ) → 0 < kind → (p : Placed) → IsPart kind number p → IsAfter p
is_after kind number h p part = record { path = part.path; after = subst (λ k. 0 < k) (sym part.kind_is) h }

abbrev self : Found ℕ → Placed
self node = record { path = []; node = itself node.label }

own_split : (node : Found ℕ) → map placed_of (own_entries [] node) ≡ self node ∷ parts_of node
own_split node =
    ap (λ (ps : List Placed). self node ∷ ps)
    (map_append placed_of (namespace_entries [] node 1 (namespaces_of node)) (attribute_entries [] node 1 (attributes_of node)))

parts_after : (node : Found ℕ) → All IsAfter (parts_of node)
parts_after node =
    all_append IsAfter _ _ (all_wider (IsPart 1 1) IsAfter (is_after 1 1 (omega arith)) _ (namespaces_are node 1 (namespaces_of node)))
    (all_wider (IsPart 2 1) IsAfter (is_after 2 1 (omega arith)) _ (attributes_are node 1 (attributes_of node)))

parts_order : (node : Found ℕ) → InOrder (parts_of node)
parts_order node =
    joined (IsPart 1 1) (IsPart 2 1) namespace_first _ _ (namespaces_are node 1 (namespaces_of node)) (attributes_are node 1 (attributes_of node))
    (namespaces_order node 1 (namespaces_of node)) (attributes_order node 1 (attributes_of node))
  where
    namespace_first : (p q : Placed) → IsPart 1 1 p → IsPart 2 1 q → Stands p q
    namespace_first p q h g =
        let is : (rank p.node.part).0 ≡ 1 = h.kind_is in
        let also : (rank q.node.part).0 ≡ 2 = g.kind_is in
        by_rank p q h.path g.path (omega arith)

own_order : (node : Found ℕ) → InOrder (map placed_of (own_entries [] node))
own_order node =
    subst InOrder (sym (own_split node))
    (first (self node) (parts_of node)
    (all_wider IsAfter (Stands (self node)) (λ q h. by_rank (self node) q refl h.path h.after) (parts_of node) (parts_after node)) (parts_order node))

own_here : (node : Found ℕ) → All IsHere (map placed_of (own_entries [] node))
own_here node =
    subst (All IsHere) (sym (own_split node)) (refl, all_wider IsAfter IsHere (λ p h. h.path) (parts_of node) (parts_after node))

-- ---- The listing

node_order : (node : Found ℕ) → All (IsFrom 1) (map placed_of (entries_in node.above [] 1 node.children))
    → InOrder (map placed_of (entries_in node.above [] 1 node.children)) → InOrder (map placed_of (listing node))
node_order node h g =
    subst InOrder (sym (map_append placed_of (own_entries [] node) (entries_in node.above [] 1 node.children)))
    (joined IsHere (IsFrom 1) (λ p q here from. by_depth p q from.position from.below here from.path) _ _ (own_here node) h (own_order node) g)

record IsAt (k : ℕ) (p : Placed) : Type 0 where
  below : List ℕ
  path : p.path ≡ k ∷ below

all_at : (k : ℕ) (ps : List Placed) → All (IsAt k) (map (deeper k) ps)
all_at k [] = tt
all_at k (p ∷ ps) = (record { below = p.path; path = refl }, all_at k ps)

at_from : (k : ℕ) (p : Placed) → IsAt k p → IsFrom k p
at_from k p h = record { position = k; below = h.below; path = h.path; from = omega arith }

from_later : (k : ℕ) (p : Placed) → IsFrom (k + 1) p → IsFrom k p
from_later k p h =
    let from : k + 1 ≤ h.position = h.from in
    record { position = h.position; below = h.below; path = h.path; from = omega arith }

at_first : (k : ℕ) (p q : Placed) → IsAt k p → IsFrom (k + 1) q → Stands p q
at_first k p q h g =
    let from : k + 1 ≤ g.position = g.from in
    by_child p q k g.position h.below g.below h.path g.path (omega arith)

below : (above : List Content) (k : ℕ) (f : Forest ℕ)
    → All (IsFrom k) (map placed_of (entries_in above [] k f)) × InOrder (map placed_of (entries_in above [] k f))
below above k Empty = (tt, none)
below above k (Node l c f g) =
    let child = found_in above l c f in
    let inner = below (c ∷ above) 1 f in
    let rest = below above (k + 1) g in
    let here = map (deeper k) (map placed_of (listing child)) in
    let later = map placed_of (entries_in above [] (k + 1) g) in
    let split : map placed_of (entries_in above [] k (Node l c f g)) ≡ here ++ later
    = ap (map placed_of) (listed_node above k l c f g) ∙ map_append placed_of (map (under k) (listing child)) (entries_in above [] (k + 1) g)
    ∙ ap (λ (ps : List Placed). ps ++ later) (placed_under k (listing child)) in
    let at = all_at k (map placed_of (listing child)) in (
      subst (All (IsFrom k)) (sym split)
          (all_append (IsFrom k) here later (all_wider (IsAt k) (IsFrom k) (at_from k) here at)
          (all_wider (IsFrom (k + 1)) (IsFrom k) (from_later k) later rest.0)),
      subst InOrder (sym split)
          (joined (IsAt k) (IsFrom (k + 1)) (at_first k) here later at rest.0
          (order_deeper k (map placed_of (listing child)) (node_order child inner.0 inner.1)) rest.1),
    )

pub listed_in_order : (document : Document ℕ) → InOrder (map placed_of (entries_of document))
listed_in_order document = let all = below [] 1 document.nodes in node_order (root_of document) all.0 all.1
