-- Copies of the nodes of a document whose elements have names are well written, and its namespace nodes undeclare no prefix.
use Rattle.std.proofs.Common.{◌≡◌, ℕ, ◌+◌, Bool, true, false, List, [], ◌∷◌, ◌++◌, map, Option, None, Some, refl}
use Rattle.std.specs.Ordering.{is_eq}
use Rattle.spec_document.specs.declared.axis.Axis.TheVariants as axis
use Rattle.spec_document.specs.declared.kind.Kind.TheVariants as kind
use Rattle.spec_document.specs.Axis.{rest_after, is_namespace_step, is_on}
use Rattle.spec_document.specs.Scope.{root_scope}
use Rattle.spec_document.specs.Declaration.{scope_of}
use Rattle.spec_document.specs.Forest.{Written, Content, Element, Text, Comment, Instruction, Forest, Empty, Node, Document}
use Rattle.spec_document.specs.Place.{Found, found_in, attributes_of, namespaces_of, kind_by, kind_of, expanded_name, written_by, written_name}
use Rattle.spec_document.specs.Place.{string_value}
use Rattle.spec_document.specs.Order.{Way, ToNamespace, ToAttribute, ToChild, way_to, way_cmp, Entry, namespace_entries, attribute_entries}
use Rattle.spec_document.specs.Order.{own_entries, entries_in, entries_of}
use Rattle.spec_meaning.specs.Stream as stream
use Rattle.spec_meaning.specs.Stream.{Stream}
use Rattle.spec_meaning.specs.Question.{local_of}
use Rattle.spec_result.specs.Recovery as recovery
use Rattle.spec_result.specs.Named.{AreNodes}
use Rattle.spec_run.specs.Copy.{attributes_before, node_before, copied_among, copy_of}
use Rattle.spec_named.proofs.Documents.{HasName, HaveNames}
use Rattle.spec_named.proofs.Streams.{IsQName, IsNode, IsWell}
use Rattle.spec_named.proofs.Names.{picked, not_wrong}
use Rattle.spec_named.proofs.Scopes.{scope_prefixes, namespaces_are_nodes}

-- ---- Copies

attributes_well : {L : Type 0} (element : Found L) (attributes : List Written) (rest : Stream) → IsWell rest
    → IsWell (attributes_before element attributes rest)
attributes_well element [] rest h = h
attributes_well element (a ∷ more) rest h = attributes_well element more rest h

pub element_nodes : {L : Type 0} (above : List Content) (label : L) (content : Content) (children : Forest L)
    → AreNodes (namespaces_of (found_in above label content children))
element_nodes above label (Element name attributes) children =
    namespaces_are_nodes (scope_of root_scope (Element name attributes ∷ above)) (scope_prefixes (Element name attributes ∷ above))
element_nodes above label (Text text) children = tt
element_nodes above label (Comment text) children = tt
element_nodes above label (Instruction target text) children = tt

node_well : {L : Type 0} (above : List Content) (label : L) (content : Content) (children : Forest L)
    → HasName (scope_of root_scope (content ∷ above)) content
    → (below rest : Stream) → IsWell below → IsWell rest → IsWell (node_before (found_in above label content children) content below rest)
node_well above label (Element name attributes) children h below rest b r = (
  not_wrong (scope_of root_scope (Element name attributes ∷ above)) name h,
  element_nodes above label (Element name attributes) children,
  attributes_well (found_in above label (Element name attributes) children) (attributes_of (found_in above label
      (Element name attributes) children)) below b,
  r,
)
node_well above label (Text text) children h below rest b r = r
node_well above label (Comment text) children h below rest b r = r
node_well above label (Instruction target text) children h below rest b r = r

copied_well : {L : Type 0} (above : List Content) (f : Forest L) → HaveNames (scope_of root_scope above) f → IsWell (copied_among above f)
copied_well above Empty h = tt
copied_well above (Node label content children siblings) h =
    node_well above label content children h.0 (copied_among (content ∷ above) children) (copied_among above siblings)
    (copied_well (content ∷ above) children h.1) (copied_well above siblings h.2)

-- ---- What is said of an entry of a document

pub record IsWellEntry {L : Type 0} (e : Entry L) : Type 0 where
  pub copy : IsWell (copy_of e.item)
  pub name : kind_of e.item ≡ kind.Element → IsQName (written_name e.item)
  -- a node that stands on the namespace axis of another
  pub namespace : (p : List Way) → is_on axis.Namespace p (way_to e.place) ≡ true → IsNode (local_of (expanded_name e.item)) (string_value e.item)

abbrev pub All : {A : Type 0} → (A → Type 0) → List A → Type 0
All P [] = Unit {0}
All P (x ∷ xs) = P x × All P xs

pub all_append : {A : Type 0} (P : A → Type 0) (xs ys : List A) → All P xs → All P ys → All P (xs ++ ys)
all_append P [] ys h g = g
all_append P (x ∷ xs) ys h g = (h.0, all_append P xs ys h.1 g)

-- ---- Ways that lead to no namespace node

abbrev HasNoNamespace : List Way → Type 0
HasNoNamespace [] = Unit {0}
HasNoNamespace (ToNamespace prefix ∷ p) = ⊥
HasNoNamespace (ToAttribute number ∷ p) = HasNoNamespace p
HasNoNamespace (ToChild position ∷ p) = HasNoNamespace p

abbrev IsNone : Option (List Way) → Type 0
IsNone o = is_namespace_step o ≡ false

after_none : (p q : List Way) → HasNoNamespace q → IsNone (rest_after p q)
after_none [] [] h = refl
after_none [] (ToNamespace prefix ∷ q) h = absurd h
after_none [] (ToAttribute number ∷ q) h = refl
after_none [] (ToChild position ∷ q) h = refl
after_none (a ∷ p) [] h = refl
after_none (a ∷ p) (ToNamespace prefix ∷ q) h = absurd h
after_none (a ∷ p) (ToAttribute number ∷ q) h =
    picked IsNone (is_eq (way_cmp a (ToAttribute number))) (rest_after p q) None (λ _. after_none p q h) (λ _. refl)
after_none (a ∷ p) (ToChild position ∷ q) h =
    picked IsNone (is_eq (way_cmp a (ToChild position))) (rest_after p q) None (λ _. after_none p q h) (λ _. refl)

children_none : (positions : List ℕ) (end : List Way) → HasNoNamespace end → HasNoNamespace (map ToChild positions ++ end)
children_none [] end h = h
children_none (position ∷ positions) end h = children_none positions end h

not_on : (positions : List ℕ) (end : List Way) → HasNoNamespace end → (p : List Way)
    → is_on axis.Namespace p (map ToChild positions ++ end) ≡ true → ⊥
not_on positions end h p e = apart (is_on axis.Namespace p (map ToChild positions ++ end)) (after_none p (map ToChild positions ++ end)
    (children_none positions end h)) e
  where
    apart : (b : Bool) → b ≡ false → b ≡ true → ⊥
    apart true e f = cc
    apart false e f = cc

-- ---- The entries

namespaces_well : {L : Type 0} (positions : List ℕ) (element : Found L) (number : ℕ) (ns : List recovery.NamespaceNode) → AreNodes ns
    → All IsWellEntry (namespace_entries positions element number ns)
namespaces_well positions element number [] h = tt
namespaces_well positions element number (n ∷ ns) h = (
  record { copy = ((h.0, h.1), tt); name = λ e. absurd (cc); namespace = λ p e. (h.0, h.1) },
  namespaces_well positions element (number + 1) ns h.2,
)

all_attributes_well : {L : Type 0} (positions : List ℕ) (element : Found L) (number : ℕ) (attributes : List Written)
    → All IsWellEntry (attribute_entries positions element number attributes)
all_attributes_well positions element number [] = tt
all_attributes_well positions element number (a ∷ more) = (
  record { copy = tt; name = λ e. absurd (cc); namespace = λ p e. absurd (not_on positions (ToAttribute number ∷ []) tt p e) },
  all_attributes_well positions element (number + 1) more,
)

element_name : (content : Content) (above : List Content) → HasName (scope_of root_scope (content ∷ above)) content
    → kind_by (Some content) ≡ kind.Element → IsQName (written_by (Some content))
element_name (Element name attributes) above h e = not_wrong (scope_of root_scope (Element name attributes ∷ above)) name h
element_name (Text text) above h e = absurd (cc)
element_name (Comment text) above h e = absurd (cc)
element_name (Instruction target text) above h e = absurd (cc)

own_well : {L : Type 0} (positions : List ℕ) (above : List Content) (label : L) (content : Content) (children : Forest L)
    → HasName (scope_of root_scope (content ∷ above)) content → HaveNames (scope_of root_scope (content ∷ above)) children
    → All IsWellEntry (own_entries positions (found_in above label content children))
own_well positions above label content children h g =
    let node = found_in above label content children in (
      record {
        copy = node_well above label content children h (copied_among (content ∷ above) children) stream.Ended (copied_well
            (content ∷ above) children g) tt;
        name = element_name content above h;
        namespace = λ p e. absurd (not_on positions [] tt p e);
      },
      all_append IsWellEntry (namespace_entries positions node 1 (namespaces_of node)) (attribute_entries positions node 1 (attributes_of node))
          (namespaces_well positions node 1 (namespaces_of node) (element_nodes above label content children))
          (all_attributes_well positions node 1 (attributes_of node)),
    )

siblings_well : {L : Type 0} (above : List Content) (parent : List ℕ) (position : ℕ) (f : Forest L) → HaveNames (scope_of root_scope above) f
    → All IsWellEntry (entries_in above parent position f)
siblings_well above parent position Empty h = tt
siblings_well above parent position (Node label content children siblings) h =
    all_append IsWellEntry
    (own_entries (parent ++ position ∷ []) (found_in above label content children) ++ entries_in (content ∷ above)
    (parent ++ position ∷ []) 1 children)
    (entries_in above parent (position + 1) siblings)
    (all_append IsWellEntry (own_entries (parent ++ position ∷ []) (found_in above label content children)) (entries_in (content ∷ above)
    (parent ++ position ∷ []) 1 children)
    (own_well (parent ++ position ∷ []) above label content children h.0 h.1) (siblings_well (content ∷ above)
    (parent ++ position ∷ []) 1 children h.1))
    (siblings_well above parent (position + 1) siblings h.2)

pub entries_well : {L : Type 0} (document : Document L) → HaveNames root_scope document.nodes → All IsWellEntry (entries_of document)
entries_well document h = (
  record { copy = copied_well [] document.nodes h; name = λ e. absurd (cc); namespace = λ p e. absurd (not_on [] [] tt p e) },
  siblings_well [] [] 1 document.nodes h,
)
