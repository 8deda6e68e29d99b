-- The tree that a stream shapes: what stands, with the declarations of the namespaces that its names and its copied namespace nodes need
-- (XSLT 1.0, sections 7.1.1 to 7.1.3 and 7.5; Namespaces in XML 1.0, section 6). For each element, starting with what is in force on its
-- parent: first its own name, then the copied namespace nodes in their order, then the attributes in theirs.
use Rattle.std.specs.Prelude.{ℕ, zero, suc, ◌+◌, Bool, false, ◌&&◌, ◌||◌, not, List, [], ◌∷◌, ◌++◌, length, decimal, bytes_eq, codes, if◌then◌else◌, unwrap_or}
use Rattle.spec_document.specs.Scope.{Scope, root_scope, bound, resolved, xml_uri}
use Rattle.spec_document.specs.Declaration.{is_there, is_xml, is_xmlns, namespaces_in}
use Rattle.spec_document.specs.Forest as forest
use Rattle.spec_document.specs.Forest.{Plain, Written, Empty, Node}
use Rattle.spec_meaning.specs.Stream.{Stream}
use Rattle.spec_result.specs.Recovery.{Given, NamespaceNode, Standing, Nothing, AnElement, AText, AComment, AnInstruction, standing}

-- ---- Names with their prefixes; the empty prefix is none

abbrev pub with_prefix : (prefix local : List ℕ) → List ℕ
with_prefix [] local = local
with_prefix (c ∷ cs) local = (c ∷ cs) ++ codes ":" ++ local

-- a name of no namespace has no prefix, one of the namespace of XML has `xml`
abbrev pub prefix_for : (written uri : List ℕ) → List ℕ
prefix_for written uri = if not (is_there uri) then [] else (if bytes_eq uri xml_uri then codes "xml" else written)

-- ---- An element whose start is made: its declarations in the order made, its attributes as they are written, and what is in force

pub record Opening : Type 0 where
  pub declarations : List Written
  pub attributes : List Written
  pub scope : Scope
  -- whether a prefix has its meaning here already: by the element's own name, by a declaration made here or by an attribute
  pub settled : List ℕ → Bool

abbrev pub begun : Scope → Opening
begun scope = record { declarations = []; attributes = []; scope = scope; settled = λ prefix. false }

abbrev pub settle : (prefix : List ℕ) → Opening → Opening
settle prefix o =
    record { declarations = o.declarations; attributes = o.attributes; scope = o.scope; settled = λ other. bytes_eq prefix other || o.settled other }

abbrev pub declaration : (prefix uri : List ℕ) → Written
declaration prefix uri = record { name = if is_there prefix then codes "xmlns:" ++ prefix else codes "xmlns"; value = uri }

abbrev pub declare : (prefix uri : List ℕ) → Opening → Opening
declare prefix uri o =
    settle prefix
    (record {
      declarations = o.declarations ++ declaration prefix uri ∷ [];
      attributes = o.attributes;
      scope = bound o.scope prefix uri;
      settled = o.settled;
    })

-- the URI that a prefix stands for, empty where there is none, and whether it is this one
abbrev pub uri_in : Scope → (prefix : List ℕ) → List ℕ
uri_in scope prefix = unwrap_or (resolved scope prefix) []

abbrev pub is_bound_to : Scope → (prefix uri : List ℕ) → Bool
is_bound_to scope prefix uri = bytes_eq (uri_in scope prefix) uri

-- the prefix stands for the URI: by a declaration, where it stands for another
abbrev pub needing : (prefix uri : List ℕ) → Opening → Opening
needing prefix uri o = if is_bound_to o.scope prefix uri then o else declare prefix uri o

-- ---- Copied namespace nodes: one that is not in force is declared, but where the element's own name, or a declaration made here, binds
-- its prefix otherwise it is dropped

abbrev pub with_node : NamespaceNode → Opening → Opening
with_node node o = if is_bound_to o.scope node.0 node.1 || o.settled node.0 then o else declare node.0 node.1 o

abbrev pub with_nodes : List NamespaceNode → Opening → Opening
with_nodes [] o = o
with_nodes (node ∷ nodes) o = with_nodes nodes (with_node node o)

-- ---- Attributes

-- `ns1`, `ns2`, .. : the first that stands for the URI or for none. Behind so many numbers there is one, as there are namespaces in scope
abbrev pub made_prefix : (tried : ℕ) → List ℕ
made_prefix tried = codes "ns" ++ decimal (tried + 1)

abbrev pub is_free : Scope → (prefix uri : List ℕ) → Bool
is_free scope prefix uri = not (is_there (uri_in scope prefix)) || is_bound_to scope prefix uri

abbrev pub first_free : Scope → (uri : List ℕ) → (more tried : ℕ) → List ℕ
first_free scope uri zero tried = made_prefix tried
first_free scope uri (suc more) tried = if is_free scope (made_prefix tried) uri then made_prefix tried else first_free scope uri more (tried + 1)

abbrev pub new_prefix : Scope → (uri : List ℕ) → List ℕ
new_prefix scope uri = first_free scope uri (length (namespaces_in scope)) 0

-- the prefix that an attribute is to have: as written, but `xmlns` is none
abbrev pub wanted_prefix : Given → List ℕ
wanted_prefix a = prefix_for (if is_xmlns a.prefix then [] else a.prefix) a.uri

-- the wanted prefix can be taken where it stands for the URI, or can be declared: it is not `xml`, and has no other meaning here
abbrev pub can_take : (prefix uri : List ℕ) → Opening → Bool
can_take prefix uri o = is_there prefix && (is_bound_to o.scope prefix uri || not (is_xml prefix || o.settled prefix))

abbrev pub taken_prefix : (prefix uri : List ℕ) → Opening → List ℕ
taken_prefix prefix uri o = if can_take prefix uri o then prefix else new_prefix o.scope uri

abbrev pub write : (name value : List ℕ) → Opening → Opening
write name value o =
    record {
      declarations = o.declarations;
      attributes = o.attributes ++ record { name = name; value = value } ∷ [];
      scope = o.scope;
      settled = o.settled;
    }

-- an attribute that has a namespace, with this prefix
abbrev pub with_prefixed : (prefix : List ℕ) → Given → Opening → Opening
with_prefixed prefix a o = write (with_prefix prefix a.local) a.value (settle prefix (needing prefix a.uri o))

abbrev pub with_attribute : Given → Opening → Opening
with_attribute a o = if is_there a.uri then with_prefixed (taken_prefix (wanted_prefix a) a.uri o) a o else write a.local a.value o

abbrev pub with_attributes : List Given → Opening → Opening
with_attributes [] o = o
with_attributes (a ∷ more) o = with_attributes more (with_attribute a o)

-- ---- The tree

-- an element, by the scope on its parent and the prefix and the URI of its own name
abbrev pub opened : Scope → (own uri : List ℕ) → List NamespaceNode → List Given → Opening
opened scope own uri namespaces attributes = with_attributes attributes (with_nodes namespaces (settle own (needing own uri (begun scope))))

-- the declarations in the order made, and then the attributes
abbrev pub all_of : Opening → List Written
all_of o = o.declarations ++ o.attributes

abbrev pub tree_of : Scope → Standing → Plain
tree_of scope Nothing = Empty
tree_of scope (AnElement prefix local uri namespaces attributes children siblings) =
    let own = prefix_for prefix uri in
    let o = opened scope own uri namespaces attributes in
    Node tt (forest.Element (with_prefix own local) (all_of o)) (tree_of o.scope children) (tree_of scope siblings)
tree_of scope (AText text siblings) = Node tt (forest.Text text) Empty (tree_of scope siblings)
tree_of scope (AComment text siblings) = Node tt (forest.Comment text) Empty (tree_of scope siblings)
tree_of scope (AnInstruction target text siblings) = Node tt (forest.Instruction target text) Empty (tree_of scope siblings)

abbrev pub shaped : Stream → Plain
shaped stream = tree_of root_scope (standing stream)
