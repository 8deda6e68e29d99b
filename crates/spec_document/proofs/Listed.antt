-- The nodes of a document are listed in document order.
use Rattle.std.proofs.Common.{◌≡◌, ℕ, ◌+◌, ◌≤◌, ◌<◌, Bool, true, false, cond, List, [], ◌∷◌, ◌++◌, Option, None, Some, refl}
use Rattle.std.proofs.Common.{sym, ◌∙◌, ap, subst, arith, append_assoc, append-nil}
use Rattle.std.specs.Prelude.{IsTrue, ◌&&◌, map, filter, nat_lt}
use lib.Dec.{T}
use Rattle.std.proofs.lemmas.Bool.Decides.{nat_tests}
use Rattle.std.specs.Ordering.{nat_cmp, is_lt, ordering_reverse}
use Rattle.std.specs.declared.cmp.Ordering.{Ordering}
use Rattle.std.specs.declared.cmp.Ordering.TheVariants.{Less, Equal, Greater}
use Rattle.std.specs.Cmp.Lexicographic.{slice_cmp}
use Rattle.std.specs.FinMap.{entries, entries_sorted}
use Rattle.std.specs.FinMap.Entries.{is_sorted, below_all}
use Rattle.spec_document.specs.Scope.{Scope}
use Rattle.spec_document.specs.Declaration.{is_there}
use Rattle.spec_document.specs.Forest.{Written, Content, Element, Text, Comment, Instruction, Forest, Empty, Node, Document}
use Rattle.spec_document.specs.Place.{Found, root_of, found_in, attributes_of, namespaces_of, namespaces_by, scope_at}
use Rattle.spec_document.specs.Order.{Way, ToNamespace, ToAttribute, ToChild, way_to, way_cmp, precedes, Entry, namespace_entries, attribute_entries}
use Rattle.spec_document.specs.Order.{own_entries, entries_in, entries_of, ways_of, ComesBeforeAll, AreInOrder}
use Rattle.spec_document.proofs.Ways.{way_total}

-- a way that goes on from w by a step that S allows
abbrev Goes : List Way → (Way → Type 0) → List Way → Type 0
Goes w S p = (a : Way) × (rest : List Way) × S a × (p ≡ w ++ a ∷ rest)

abbrev AllGo : List Way → (Way → Type 0) → List (List Way) → Type 0
AllGo w S [] = Unit {0}
AllGo w S (p ∷ ps) = Goes w S p × AllGo w S ps

go-append : (w : List Way) (S : Way → Type 0) (ps qs : List (List Way)) → AllGo w S ps → AllGo w S qs → AllGo w S (ps ++ qs)
go-append w S [] qs g h = h
go-append w S (p ∷ ps) qs g h = (g.0, go-append w S ps qs g.1 h)

go-wider : (w : List Way) (S T : Way → Type 0) → ((a : Way) → S a → T a) → (ps : List (List Way)) → AllGo w S ps → AllGo w T ps
go-wider w S T f [] g = tt
go-wider w S T f (p ∷ ps) g = ((g.0.0, g.0.1, f g.0.0 g.0.2, g.0.3), go-wider w S T f ps g.1)

pub way_self : (a : Way) → way_cmp a a ≡ Equal
way_self a = self (way_cmp a a) refl
  where
    self : (o : Ordering) → way_cmp a a ≡ o → way_cmp a a ≡ Equal
    self Equal e = e
    self Less e = let f : Less ≡ Greater = sym e ∙ way_total.antisymm a a ∙ ap ordering_reverse e in absurd (cc)
    self Greater e = let f : Greater ≡ Less = sym e ∙ way_total.antisymm a a ∙ ap ordering_reverse e in absurd (cc)

-- two ways that part at a step
parts-at : (w : List Way) (a b : Way) (p q : List Way) → way_cmp a b ≡ Less → IsTrue (precedes (w ++ a ∷ p) (w ++ b ∷ q))
parts-at [] a b p q e = rw e refl
parts-at (c ∷ w) a b p q e = rw (way_self c) (parts-at w a b p q e)

-- a way comes before what goes on from it
goes-on : (w : List Way) (a : Way) (p : List Way) → IsTrue (precedes w (w ++ a ∷ p))
goes-on [] a p = refl
goes-on (c ∷ w) a p = rw (way_self c) (goes-on w a p)

one-before : (w : List Way) (a : Way) (rest : List Way) (T : Way → Type 0) → ((b : Way) → T b → way_cmp a b ≡ Less) → (qs : List (List Way))
    → AllGo w T qs → ComesBeforeAll (w ++ a ∷ rest) qs
one-before w a rest T f [] g = tt
one-before w a rest T f (q ∷ qs) g =
    (rw g.0.3 (parts-at w a g.0.0 rest g.0.1 (f g.0.0 g.0.2)), one-before w a rest T f qs g.1)

all-on : (w : List Way) (S : Way → Type 0) (qs : List (List Way)) → AllGo w S qs → ComesBeforeAll w qs
all-on w S [] g = tt
all-on w S (q ∷ qs) g = (rw g.0.3 (goes-on w g.0.0 g.0.1), all-on w S qs g.1)

before-append : (p : List Way) (qs rs : List (List Way)) → ComesBeforeAll p qs → ComesBeforeAll p rs → ComesBeforeAll p (qs ++ rs)
before-append p [] rs g h = h
before-append p (q ∷ qs) rs g h = (g.0, before-append p qs rs g.1 h)

-- two lists, the steps of the first before those of the second
joined : (w : List Way) (S T : Way → Type 0) → ((a b : Way) → S a → T b → way_cmp a b ≡ Less)
    → (ps qs : List (List Way)) → AllGo w S ps → AllGo w T qs → AreInOrder ps → AreInOrder qs → AreInOrder (ps ++ qs)
joined w S T f [] qs g h i j = j
joined w S T f (p ∷ ps) qs g h i j =
    let first : ComesBeforeAll p qs = rw g.0.3 (one-before w g.0.0 g.0.1 T (λ b t. f g.0.0 b g.0.2 t) qs h) in
    (before-append p ps qs i.0 first, joined w S T f ps qs g.1 h i.1 j)

-- ---- Namespace nodes, by the order of the map of the scope

abbrev pub Namespaces : Type 0
Namespaces = List (List ℕ × List ℕ)

abbrev pub rises : Namespaces → Bool
rises = is_sorted (slice_cmp nat_cmp)

abbrev pub below : List ℕ → Namespaces → Bool
below = below_all (slice_cmp nat_cmp)

pub first_of : (a b : Bool) → IsTrue (a && b) → IsTrue a
first_of true b h = refl
first_of false b h = absurd (cc)

pub second_of : (a b : Bool) → IsTrue (a && b) → IsTrue b
second_of true b h = h
second_of false b h = absurd (cc)

both_of : (a b : Bool) → IsTrue a → IsTrue b → IsTrue (a && b)
both_of true b g h = h
both_of false b g h = absurd (cc)

below-filter : (p : List ℕ × List ℕ → Bool) (x : List ℕ) (ns : Namespaces) → IsTrue (below x ns) → IsTrue (below x (filter p ns))
below-filter p x [] h = h
below-filter p x (n ∷ ns) h =
    let rest = below-filter p x ns (second_of _ (below x ns) h) in
    elim (p n) as (λ b. IsTrue (below x (cond b (n ∷ filter p ns) (filter p ns)))) [
      | true ↦ both_of _ _ (first_of _ (below x ns) h) rest
      | false ↦ rest
    ]

rises-filter : (p : List ℕ × List ℕ → Bool) (ns : Namespaces) → IsTrue (rises ns) → IsTrue (rises (filter p ns))
rises-filter p [] h = h
rises-filter p (n ∷ ns) h =
    let rest = rises-filter p ns (second_of _ (rises ns) h) in
    elim (p n) as (λ b. IsTrue (rises (cond b (n ∷ filter p ns) (filter p ns)))) [
      | true ↦ both_of _ _ (below-filter p n.0 ns (first_of _ (rises ns) h)) rest
      | false ↦ rest
    ]

abbrev IsToNamespace : Way → Type 0
IsToNamespace (ToNamespace prefix) = Unit {0}
IsToNamespace (ToAttribute number) = ⊥
IsToNamespace (ToChild position) = ⊥

pub less : (o : Ordering) → IsTrue (is_lt o) → o ≡ Less
less Less h = refl
less Equal h = absurd (cc)
less Greater h = absurd (cc)

namespaces-go : {L : Type 0} (positions : List ℕ) (element : Found L) (number : ℕ) (ns : Namespaces)
    → AllGo (map ToChild positions) IsToNamespace (ways_of (namespace_entries positions element number ns))
namespaces-go positions element number [] = tt
namespaces-go positions element number (n ∷ ns) = ((ToNamespace n.0, [], tt, refl), namespaces-go positions element (number + 1) ns)

after-namespace : {L : Type 0} (positions : List ℕ) (element : Found L) (number : ℕ) (x : List ℕ) (ns : Namespaces) → IsTrue (below x ns)
    → ComesBeforeAll (map ToChild positions ++ ToNamespace x ∷ []) (ways_of (namespace_entries positions element number ns))
after-namespace positions element number x [] h = tt
after-namespace positions element number x (n ∷ ns) h = (
  parts-at (map ToChild positions) (ToNamespace x) (ToNamespace n.0) [] [] (less _ (first_of _ (below x ns) h)),
  after-namespace positions element (number + 1) x ns (second_of _ (below x ns) h),
)

namespaces-order : {L : Type 0} (positions : List ℕ) (element : Found L) (number : ℕ) (ns : Namespaces) → IsTrue (rises ns)
    → AreInOrder (ways_of (namespace_entries positions element number ns))
namespaces-order positions element number [] h = tt
namespaces-order positions element number (n ∷ ns) h = (
  after-namespace positions element (number + 1) n.0 ns (first_of _ (rises ns) h),
  namespaces-order positions element (number + 1) ns (second_of _ (rises ns) h),
)

passed : (b : Bool) → T b → IsTrue b
passed true t = refl
passed false t = elim t [ ]

scope-rises : (scope : Scope) → IsTrue (rises (entries scope))
scope-rises scope = passed (rises (entries scope)) (entries_sorted scope)

pub namespaces-rise : {L : Type 0} (node : Found L) → IsTrue (rises (namespaces_of node))
namespaces-rise node = by node.content
  where
    by : (c : Option Content) → IsTrue (rises (namespaces_by c (scope_at node)))
    by None = refl
    by (Some (Element name attributes)) = rises-filter (λ n. is_there n.1) (entries (scope_at node)) (scope-rises (scope_at node))
    by (Some (Text text)) = refl
    by (Some (Comment text)) = refl
    by (Some (Instruction target text)) = refl

-- ---- Attributes, by their numbers

abbrev IsToAttribute : Way → Type 0
IsToAttribute (ToNamespace prefix) = ⊥
IsToAttribute (ToAttribute number) = Unit {0}
IsToAttribute (ToChild position) = ⊥

pub less-number : (m n : ℕ) → m < n → nat_cmp m n ≡ Less
less-number m n h = let e : nat_lt m n ≡ true = grind (arith, nat_tests) in rw e refl

attributes-go : {L : Type 0} (positions : List ℕ) (element : Found L) (number : ℕ) (more : List Written)
    → AllGo (map ToChild positions) IsToAttribute (ways_of (attribute_entries positions element number more))
attributes-go positions element number [] = tt
attributes-go positions element number (a ∷ more) = ((ToAttribute number, [], tt, refl), attributes-go positions element (number + 1) more)

after-attribute : {L : Type 0} (positions : List ℕ) (element : Found L) (number m : ℕ) (more : List Written) → m < number
    → ComesBeforeAll (map ToChild positions ++ ToAttribute m ∷ []) (ways_of (attribute_entries positions element number more))
after-attribute positions element number m [] h = tt
after-attribute positions element number m (a ∷ more) h = (
  parts-at (map ToChild positions) (ToAttribute m) (ToAttribute number) [] [] (less-number m number h),
  after-attribute positions element (number + 1) m more (omega arith),
)

attributes-order : {L : Type 0} (positions : List ℕ) (element : Found L) (number : ℕ) (more : List Written)
    → AreInOrder (ways_of (attribute_entries positions element number more))
attributes-order positions element number [] = tt
attributes-order positions element number (a ∷ more) =
    (after-attribute positions element (number + 1) number more (omega arith), attributes-order positions element (number + 1) more)

-- ---- A node with all that stands below it

ways-append : {L : Type 0} (es ds : List (Entry L)) → ways_of (es ++ ds) ≡ ways_of es ++ ways_of ds
ways-append [] ds = refl
ways-append (e ∷ es) ds = ap (λ (ps : List (List Way)). way_to e.place ∷ ps) (ways-append es ds)

-- to an attribute or a namespace node; to a child at this position or a later one
abbrev IsOwn : Way → Type 0
IsOwn (ToNamespace prefix) = Unit {0}
IsOwn (ToAttribute number) = Unit {0}
IsOwn (ToChild position) = ⊥

abbrev IsChildFrom : ℕ → Way → Type 0
IsChildFrom position (ToNamespace prefix) = ⊥
IsChildFrom position (ToAttribute number) = ⊥
IsChildFrom position (ToChild other) = position ≤ other

namespace-is-own : (a : Way) → IsToNamespace a → IsOwn a
namespace-is-own (ToNamespace prefix) h = tt
namespace-is-own (ToAttribute number) h = elim h [ ]
namespace-is-own (ToChild position) h = elim h [ ]

attribute-is-own : (a : Way) → IsToAttribute a → IsOwn a
attribute-is-own (ToNamespace prefix) h = tt
attribute-is-own (ToAttribute number) h = tt
attribute-is-own (ToChild position) h = elim h [ ]

namespace-first : (a b : Way) → IsToNamespace a → IsToAttribute b → way_cmp a b ≡ Less
namespace-first (ToNamespace p) (ToAttribute n) g h = refl
namespace-first (ToNamespace p) (ToNamespace n) g h = elim h [ ]
namespace-first (ToNamespace p) (ToChild n) g h = elim h [ ]
namespace-first (ToAttribute p) b g h = elim g [ ]
namespace-first (ToChild p) b g h = elim g [ ]

own-first : (a b : Way) → IsOwn a → IsChildFrom 1 b → way_cmp a b ≡ Less
own-first (ToNamespace p) (ToChild n) g h = refl
own-first (ToAttribute p) (ToChild n) g h = refl
own-first (ToNamespace p) (ToNamespace n) g h = elim h [ ]
own-first (ToNamespace p) (ToAttribute n) g h = elim h [ ]
own-first (ToAttribute p) (ToNamespace n) g h = elim h [ ]
own-first (ToAttribute p) (ToAttribute n) g h = elim h [ ]
own-first (ToChild p) b g h = elim g [ ]

abbrev parts_of : {L : Type 0} → List ℕ → Found L → List (Entry L)
parts_of positions node = namespace_entries positions node 1 (namespaces_of node) ++ attribute_entries positions node 1 (attributes_of node)

parts-go : {L : Type 0} (positions : List ℕ) (node : Found L) → AllGo (map ToChild positions) IsOwn (ways_of (parts_of positions node))
parts-go positions node =
    rw ways-append (go-append (map ToChild positions) IsOwn _ _
    (go-wider _ IsToNamespace IsOwn namespace-is-own _ (namespaces-go positions node 1 (namespaces_of node)))
    (go-wider _ IsToAttribute IsOwn attribute-is-own _ (attributes-go positions node 1 (attributes_of node))))

parts-order : {L : Type 0} (positions : List ℕ) (node : Found L) → AreInOrder (ways_of (parts_of positions node))
parts-order positions node =
    rw ways-append (joined (map ToChild positions) IsToNamespace IsToAttribute namespace-first _ _
    (namespaces-go positions node 1 (namespaces_of node)) (attributes-go positions node 1 (attributes_of node))
    (namespaces-order positions node 1 (namespaces_of node) (namespaces-rise node)) (attributes-order positions node 1 (attributes_of node)))

-- a step of any kind
abbrev IsAny : Way → Type 0
IsAny a = Unit {0}

-- what stands below a node, in order, stands in order with the node, its namespace nodes and its attributes
node-order : {L : Type 0} (positions : List ℕ) (node : Found L) (below : List (Entry L)) → AllGo (map ToChild positions) (IsChildFrom 1) (ways_of below)
    → AreInOrder (ways_of below)
    → AreInOrder (ways_of (own_entries positions node ++ below))
node-order {L} positions node below g h =
    let split : ways_of (parts_of positions node ++ below) ≡ ways_of (parts_of positions node) ++ ways_of below =
    ways-append (parts_of positions node) below in
    let go : AllGo w IsAny (ways_of (parts_of positions node) ++ ways_of below) =
    go-append w IsAny _ _ (go-wider w IsOwn IsAny (λ a o. tt) _ (parts-go positions node)) (go-wider w (IsChildFrom 1) IsAny (λ a o. tt) _ g) in
    let order : AreInOrder (ways_of (parts_of positions node) ++ ways_of below) =
    joined w IsOwn (IsChildFrom 1) own-first _ _ (parts-go positions node) g (parts-order positions node) h in
    (rw (append-nil, split) (all-on w IsAny _ go), rw split order)
  where
    w : List Way
    w = map ToChild positions

-- all of them go on from the way to a node
node-go : {L : Type 0} (positions : List ℕ) (node : Found L) (below : List (Entry L)) → AllGo (map ToChild positions) (IsChildFrom 1) (ways_of below)
    → (w : List Way) (a : Way) → map ToChild positions ≡ w ++ a ∷ [] → AllGo w (λ b. b ≡ a) (ways_of (own_entries positions node ++ below))
node-go {L} positions node below g w a e =
    let split : ways_of (parts_of positions node ++ below) ≡ ways_of (parts_of positions node) ++ ways_of below =
    ways-append (parts_of positions node) below in
    let go : AllGo (map ToChild positions) IsAny (ways_of (parts_of positions node) ++ ways_of below) =
    go-append (map ToChild positions) IsAny _ _ (go-wider _ IsOwn IsAny (λ b o. tt) _ (parts-go positions node))
    (go-wider _ (IsChildFrom 1) IsAny (λ b o. tt) _ g) in
    ((a, [], refl, append-nil (map ToChild positions) ∙ e), rw split (lifted _ go))
  where
    lifted : (ps : List (List Way)) → AllGo (map ToChild positions) IsAny ps → AllGo w (λ b. b ≡ a) ps
    lifted [] h = tt
    lifted (p ∷ ps) h = (
      (
        a,
        h.0.0 ∷ h.0.1,
        refl,
        h.0.3 ∙ ap (λ (v : List Way). v ++ h.0.0 ∷ h.0.1) e
            ∙ append_assoc w (a ∷ []) (h.0.0 ∷ h.0.1),
      ),
      lifted ps h.1,
    )

-- the positions of one more step
way-snoc : (parent : List ℕ) (position : ℕ) → map ToChild (parent ++ position ∷ []) ≡ map ToChild parent ++ ToChild position ∷ []
way-snoc [] position = refl
way-snoc (n ∷ parent) position = ap (λ (w : List Way). ToChild n ∷ w) (way-snoc parent position)

is-from : (position : ℕ) (a : Way) → a ≡ ToChild position → IsChildFrom position a
is-from position a e = let P : Way → Type 0 = IsChildFrom position in subst P (sym e) (let h : position ≤ position = omega arith in h)

from-later : (position : ℕ) (a : Way) → IsChildFrom (position + 1) a → IsChildFrom position a
from-later position (ToNamespace p) h = elim h [ ]
from-later position (ToAttribute p) h = elim h [ ]
from-later position (ToChild n) h = omega arith

earlier-first : (position : ℕ) (a b : Way) → a ≡ ToChild position → IsChildFrom (position + 1) b → way_cmp a b ≡ Less
earlier-first position a (ToNamespace p) e h = elim h [ ]
earlier-first position a (ToAttribute p) e h = elim h [ ]
earlier-first position a (ToChild n) e h = ap (λ (c : Way). way_cmp c (ToChild n)) e ∙ less-number position n (omega arith)

-- siblings, with all below them, go on from their parent, and stand in order
pub siblings : {L : Type 0} (above : List Content) (parent : List ℕ) (position : ℕ) (f : Forest L)
    → AllGo (map ToChild parent) (IsChildFrom position) (ways_of (entries_in above parent position f))
    × AreInOrder (ways_of (entries_in above parent position f))
siblings above parent position Empty = (tt, tt)
siblings above parent position (Node label content children after) =
    let here = parent ++ position ∷ [] in
    let node = found_in above label content children in
    let inner = siblings (content ∷ above) here 1 children in
    let rest = siblings above parent (position + 1) after in
    let w = map ToChild parent in
    let below = entries_in (content ∷ above) here 1 children in
    let go : AllGo w (λ a. a ≡ ToChild position) (ways_of (own_entries here node ++ below)) =
    node-go here node below inner.0 w (ToChild position) (way-snoc parent position) in
    let order : AreInOrder (ways_of (own_entries here node ++ below)) = node-order here node below inner.0 inner.1 in
    let split : ways_of (own_entries here node ++ below ++ entries_in above parent (position + 1) after)
    ≡ ways_of (own_entries here node ++ below) ++ ways_of (entries_in above parent (position + 1) after) =
    ways-append (own_entries here node ++ below) (entries_in above parent (position + 1) after) in
    let G : List (List Way) → Type 0 = AllGo w (IsChildFrom position) in
    let first : List (List Way) = ways_of (own_entries here node ++ below) in
    let second : List (List Way) = ways_of (entries_in above parent (position + 1) after) in (
      subst G (sym split) (go-append w (IsChildFrom position) first second
          (go-wider w (λ a. a ≡ ToChild position) (IsChildFrom position) (is-from position) first go)
          (go-wider w (IsChildFrom (position + 1)) (IsChildFrom position) (from-later position) second rest.0)),
      subst AreInOrder (sym split)
          (joined w (λ a. a ≡ ToChild position) (IsChildFrom (position + 1)) (earlier-first position) first second go rest.0 order rest.1),
    )

pub in_order : {L : Type 0} (document : Document L) → AreInOrder (ways_of (entries_of document))
in_order document =
    let inner = siblings [] [] 1 document.nodes in
    node-order [] (root_of document) (entries_in [] [] 1 document.nodes) inner.0 inner.1
