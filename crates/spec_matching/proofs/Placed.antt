-- Each node of a document but the root stands one step further than another, which is its parent: one of its kind.
use Rattle.std.proofs.Common.{◌≡◌, ℕ, ◌+◌, ◌⊎◌, inl, inr, true, false, List, [], ◌∷◌, ◌++◌, refl, sym, ap, ◌∙◌}
use Rattle.std.proofs.lemmas.List.{append-nil}
use Rattle.std.specs.Prelude.{map, IsTrue}
use Rattle.std.specs.Ordering.{is_lt}
use Rattle.std.proofs.lemmas.Cmp.{tied_itself}
use Rattle.spec_document.specs.declared.kind.Kind.{Kind}
use Rattle.spec_document.specs.declared.kind.Kind.TheVariants as kind
use Rattle.spec_document.specs.Forest.{Written, Content, Element, Text, Comment, Instruction, Forest, Empty, Node, Document}
use Rattle.spec_document.specs.Place.{Itself, Found, root_of, found_in, TreeNode, attributes_of, namespaces_of, kind_of}
use Rattle.spec_document.specs.Order.{Way, ToNamespace, ToAttribute, ToChild, way_to, document_cmp, precedes, Entry, namespace_entries, attribute_entries, own_entries, entries_in, entries_of, ways_of, ComesBeforeAll, AreInOrder}
use Rattle.spec_document.proofs.Ways.{document_total}
use Rattle.spec_document.proofs.Listed.{in_order}
use Rattle.spec_meaning.specs.Step.{is_attribute}
use Rattle.spec_transform.specs.Match.{is_child}
use Rattle.spec_matching.specs.Given.{IsOneOf, at_the_front, further_on}

-- ---- Members of lists

one_of_first : {A : Type 0} (x : A) (xs ys : List A) → IsOneOf x xs → IsOneOf x (xs ++ ys)
one_of_first x _ ys at_the_front = at_the_front
one_of_first x _ ys (further_on {ys = zs} i) = further_on (one_of_first x zs ys i)

one_of_second : {A : Type 0} (x : A) (xs ys : List A) → IsOneOf x ys → IsOneOf x (xs ++ ys)
one_of_second x [] ys i = i
one_of_second x (z ∷ xs) ys i = further_on (one_of_second x xs ys i)

abbrev AllOf : {A : Type 0} → (A → Type 0) → List A → Type 0
AllOf P [] = Unit {0}
AllOf P (x ∷ xs) = P x × AllOf P xs

all_append : {A : Type 0} (P : A → Type 0) (xs ys : List A) → AllOf P xs → AllOf P ys → AllOf P (xs ++ ys)
all_append P [] ys h g = g
all_append P (x ∷ xs) ys h g = (h.0, all_append P xs ys h.1 g)

all_wider : {A : Type 0} (P Q : A → Type 0) → ((x : A) → P x → Q x) → (xs : List A) → AllOf P xs → AllOf Q xs
all_wider P Q so [] h = tt
all_wider P Q so (x ∷ xs) h = (so x h.0, all_wider P Q so xs h.1)

one_of_all : {A : Type 0} (P : A → Type 0) (x : A) (xs : List A) → AllOf P xs → IsOneOf x xs → P x
one_of_all P x _ h at_the_front = h.0
one_of_all P x _ h (further_on {ys = ys} i) = one_of_all P x ys h.1 i

-- ---- The kind of a node, by the last step on the way to it

abbrev pub KindBy : Way → Kind → Type 0
KindBy (ToChild n) k = (is_child k ≡ true) × (is_attribute k ≡ false)
KindBy (ToAttribute n) k = k ≡ kind.Attribute
KindBy (ToNamespace p) k = k ≡ kind.Namespace

-- a node that stands one step further than one of these nodes, or than the node at this way
record HasUp {L : Type 0} (es : List (Entry L)) (w : List Way) (e : Entry L) : Type 0 where
  up : List Way
  step : Way
  way : way_to e.place ≡ up ++ step ∷ []
  is_kind : KindBy step (kind_of e.item)
  from : (up ≡ w) ⊎ ((f : Entry L) × IsOneOf f es × (way_to f.place ≡ up))

abbrev From : {L : Type 0} → List (Entry L) → List Way → List Way → Type 0
From {L = L} es w up = (up ≡ w) ⊎ ((f : Entry L) × IsOneOf f es × (way_to f.place ≡ up))

from_wider : {L : Type 0} (es fs : List (Entry L)) (w v up : List Way) → ((f : Entry L) → IsOneOf f es → IsOneOf f fs) → (up ≡ w → From fs v up)
    → From es w up → From fs v up
from_wider es fs w v up more so (inl e) = so e
from_wider es fs w v up more so (inr f) = inr (f.0, more f.0 f.1, f.2)

has_wider : {L : Type 0} (es fs : List (Entry L)) (w v : List Way) → ((f : Entry L) → IsOneOf f es → IsOneOf f fs)
    → ((up : List Way) → up ≡ w → From fs v up) → (e : Entry L) → HasUp es w e → HasUp fs v e
has_wider es fs w v more so e h =
    record { up = h.up; step = h.step; way = h.way; is_kind = h.is_kind; from = from_wider es fs w v h.up more (so h.up) h.from }

abbrev pub entry_itself : {L : Type 0} → List ℕ → Found L → Entry L
entry_itself positions node = record { place = record { positions = positions; ending = Itself }; number = 0; item = TreeNode node }

-- the namespace nodes and the attributes of an element stand one step further than it
namespaces_placed : {L : Type 0} (positions : List ℕ) (node : Found L) (w : List Way) (es : List (Entry L)) → IsOneOf (entry_itself positions node) es
    → (number : ℕ) (ns : List (List ℕ × List ℕ)) → AllOf (HasUp es w) (namespace_entries positions node number ns)
namespaces_placed positions node w es i number [] = tt
namespaces_placed positions node w es i number (n ∷ ns) = (
  record {
    up = map ToChild positions;
    step = ToNamespace n.0;
    way = refl;
    is_kind = refl;
    from = inr (entry_itself positions node, i, append-nil (map ToChild positions));
  },
  namespaces_placed positions node w es i (number + 1) ns,
)

attributes_placed : {L : Type 0} (positions : List ℕ) (node : Found L) (w : List Way) (es : List (Entry L)) → IsOneOf (entry_itself positions node) es
    → (number : ℕ) (written : List Written) → AllOf (HasUp es w) (attribute_entries positions node number written)
attributes_placed positions node w es i number [] = tt
attributes_placed positions node w es i number (a ∷ written) = (
  record {
    up = map ToChild positions;
    step = ToAttribute number;
    way = refl;
    is_kind = refl;
    from = inr (entry_itself positions node, i, append-nil (map ToChild positions));
  },
  attributes_placed positions node w es i (number + 1) written,
)

positions_snoc : (parent : List ℕ) (position : ℕ) → map ToChild (parent ++ position ∷ []) ≡ map ToChild parent ++ ToChild position ∷ []
positions_snoc [] position = refl
positions_snoc (n ∷ parent) position = ap (λ (w : List Way). ToChild n ∷ w) (positions_snoc parent position)

content_kind : {L : Type 0} (above : List Content) (label : L) (content : Content) (children : Forest L) (position : ℕ)
    → KindBy (ToChild position) (kind_of (TreeNode (found_in above label content children)))
content_kind above label (Element name attributes) children position = (refl, refl)
content_kind above label (Text text) children position = (refl, refl)
content_kind above label (Comment text) children position = (refl, refl)
content_kind above label (Instruction target text) children position = (refl, refl)

-- siblings, with all below them, by the way to their parent
siblings_placed : {L : Type 0} (above : List Content) (parent : List ℕ) (position : ℕ) (f : Forest L)
    → AllOf (HasUp (entries_in above parent position f) (map ToChild parent)) (entries_in above parent position f)
siblings_placed above parent position Empty = tt
siblings_placed {L} above parent position (Node label content children after) =
    let inner = siblings_placed (content ∷ above) here 1 children in
    let rest = siblings_placed above parent (position + 1) after in
    all_append P (own_entries here node ++ below) others
    (all_append P (own_entries here node) below (
      own,
      all_append P (namespace_entries here node 1 (namespaces_of node))
          (attribute_entries here node 1 (attributes_of node)) (namespaces_placed here node w all at_the_front 1 (namespaces_of node))
          (attributes_placed here node w all at_the_front 1 (attributes_of node)),
    )
    (all_wider (HasUp below (map ToChild here)) P
    (has_wider below all (map ToChild here) w
    (λ f i. one_of_first f (own_entries here node ++ below) others (one_of_second f (own_entries here node) below i))
    (λ up e. inr (entry_itself here node, at_the_front, append-nil (map ToChild here) ∙ sym e))) below inner))
    (all_wider (HasUp others w) P
    (has_wider others all w w (λ f i. one_of_second f (own_entries here node ++ below) others i) (λ up e. inl e)) others rest)
  where
    here : List ℕ
    here = parent ++ position ∷ []

    node : Found L
    node = found_in above label content children

    below : List (Entry L)
    below = entries_in (content ∷ above) here 1 children

    others : List (Entry L)
    others = entries_in above parent (position + 1) after

    all : List (Entry L)
    all = own_entries here node ++ below ++ others

    w : List Way
    w = map ToChild parent

    P : Entry L → Type 0
    P = HasUp all w

    own : HasUp all w (entry_itself here node)
    own = record {
      up = w;
      step = ToChild position;
      way = append-nil (map ToChild here) ∙ positions_snoc parent position;
      is_kind = content_kind above label content children position;
      from = inl refl;
    }

-- ---- A node of a document

-- its parent, with the step from there
pub record HasParent {L : Type 0} (es : List (Entry L)) (e : Entry L) : Type 0 where
  pub up : Entry L
  pub is_one : IsOneOf up es
  pub step : Way
  pub way : way_to e.place ≡ way_to up.place ++ step ∷ []
  pub is_kind : KindBy step (kind_of e.item)

abbrev pub IsRootOf : {L : Type 0} → Entry L → Type 0
IsRootOf e = (way_to e.place ≡ []) × (kind_of e.item ≡ kind.Root)

abbrev pub IsPlaced : {L : Type 0} → List (Entry L) → Entry L → Type 0
IsPlaced es e = IsRootOf e ⊎ HasParent es e

abbrev pub root_entry : {L : Type 0} → Document L → Entry L
root_entry document = entry_itself [] (root_of document)

below_root : {L : Type 0} (document : Document L) (es : List (Entry L)) (e : Entry L) → HasUp es [] e → HasParent (root_entry document ∷ es) e
below_root {L} document es e h = go h.from
  where
    go : From es [] h.up → HasParent (root_entry document ∷ es) e
    go (inl is) =
        record { up = root_entry document; is_one = at_the_front; step = h.step; way = h.way ∙ ap (λ (w : List Way). w ++ h.step ∷ []) is; is_kind = h.is_kind }
    go (inr f) =
        record {
          up = f.0;
          is_one = further_on f.1;
          step = h.step;
          way = h.way ∙ ap (λ (w : List Way). w ++ h.step ∷ []) (sym f.2);
          is_kind = h.is_kind;
        }

pub placed : {L : Type 0} (document : Document L) (e : Entry L) → IsOneOf e (entries_of document) → IsPlaced (entries_of document) e
placed {L} document e i =
    let inner = siblings_placed [] [] 1 document.nodes in
    one_of_all (IsPlaced (entries_of document)) e (entries_of document) (
      inl (refl, refl),
      all_wider (HasUp (entries_in [] [] 1 document.nodes) []) (IsPlaced (entries_of document))
          (λ d h. inr (below_root document (entries_in [] [] 1 document.nodes) d h)) (entries_in [] [] 1 document.nodes) inner,
    ) i

-- ---- Each stands once

not_before_itself : (w v : List Way) → w ≡ v → IsTrue (precedes w v) → ⊥
not_before_itself w v e h =
    let same = ap is_lt (ap (document_cmp w) (sym e) ∙ tied_itself document_total w) in
    let never : false ≡ true = sym same ∙ h in absurd (cc)

before_one : {L : Type 0} (w : List Way) (e : Entry L) (es : List (Entry L)) → ComesBeforeAll w (ways_of es) → IsOneOf e es → IsTrue (precedes w (way_to e.place))
before_one w e _ h at_the_front = h.0
before_one w e _ h (further_on {ys = es} i) = before_one w e es h.1 i

one_in_order : {L : Type 0} (e f : Entry L) (es : List (Entry L)) → AreInOrder (ways_of es) → IsOneOf e es → IsOneOf f es
    → way_to e.place ≡ way_to f.place → e ≡ f
one_in_order e _ _ h (at_the_front {xs = es}) at_the_front is = refl
one_in_order e f _ h (at_the_front {xs = es}) (further_on j) is =
    absurd (not_before_itself (way_to e.place) (way_to f.place) is (before_one (way_to e.place) f es h.0 j))
one_in_order e f _ h (further_on {ys = es} i) at_the_front is =
    absurd (not_before_itself (way_to f.place) (way_to e.place) (sym is) (before_one (way_to f.place) e es h.0 i))
one_in_order e f _ h (further_on {ys = es} i) (further_on j) is = one_in_order e f es h.1 i j is

pub one_entry : {L : Type 0} (document : Document L) (e f : Entry L) → IsOneOf e (entries_of document) → IsOneOf f (entries_of document)
    → way_to e.place ≡ way_to f.place → e ≡ f
one_entry document e f i j is = one_in_order e f (entries_of document) (in_order document) i j is

-- none stands among those after it
abbrev pub NoneTwice : {A : Type 0} → List A → Type 0
NoneTwice [] = Unit {0}
NoneTwice (x ∷ xs) = (IsOneOf x xs → ⊥) × NoneTwice xs

none_twice : {L : Type 0} (es : List (Entry L)) → AreInOrder (ways_of es) → NoneTwice es
none_twice [] h = tt
none_twice (e ∷ es) h =
    ((λ i. not_before_itself (way_to e.place) (way_to e.place) refl (before_one (way_to e.place) e es h.0 i)), none_twice es h.1)

pub entries_once : {L : Type 0} (document : Document L) → NoneTwice (entries_of document)
entries_once document = none_twice (entries_of document) (in_order document)
