-- Namespace declarations, and what names mean where they stand (Namespaces in XML 1.0, sections 3, 5 and 6).
use Rattle.std.specs.Prelude.{ℕ, Bool, true, false, not, ◌&&◌, ◌||◌, List, [], ◌∷◌, Option, None, Some, if◌then◌else◌, bytes_eq, codes}
use Rattle.std.specs.Option.{option_map, unwrap_or}
use Rattle.std.specs.List.{filter}
use Rattle.std.specs.FinMap.{entries}
use Rattle.spec_document.specs.declared.usage.AttributeUse.{AttributeUse}
use Rattle.spec_document.specs.declared.usage.AttributeUse.TheVariants.{Declares, Names, NoName}
use Rattle.spec_document.specs.Name.{QName, qname_of, Expanded}
use Rattle.spec_document.specs.Scope.{Scope, xml_uri, xmlns_uri, bound, resolved}
use Rattle.spec_document.specs.Forest.{Written, Content, Element, Text, Comment, Instruction}

-- what an attribute is by its written name
abbrev pub PlainUse : Type 0
PlainUse = AttributeUse (List ℕ) QName

abbrev pub is_xmlns : List ℕ → Bool
is_xmlns text = bytes_eq text (codes "xmlns")

abbrev pub use_of_qname : QName → PlainUse
use_of_qname name =
    elim name.prefix [
      | None ↦ if is_xmlns name.local then Declares [] else Names name
      | Some prefix ↦ if is_xmlns prefix then Declares name.local else Names name
    ]

abbrev pub use_of : List ℕ → PlainUse
use_of written = elim (qname_of written) [ None ↦ NoName | Some name ↦ use_of_qname name ]

abbrev pub is_declaration : Written → Bool
is_declaration a = elim (use_of a.name) [ Declares prefix ↦ true | Names name ↦ false | NoName ↦ false ]

-- the scope after what one attribute declares, and after what all of them do
abbrev pub declared : Written → Scope → Scope
declared a scope = elim (use_of a.name) [ Declares prefix ↦ bound scope prefix a.value | Names name ↦ scope | NoName ↦ scope ]

abbrev pub declared_all : List Written → Scope → Scope
declared_all [] scope = scope
declared_all (a ∷ more) scope = declared_all more (declared a scope)

-- the scope inside a node that stands in this scope
abbrev pub within : Content → Scope → Scope
within (Element name attributes) scope = declared_all attributes scope
within (Text text) scope = scope
within (Comment text) scope = scope
within (Instruction target text) scope = scope

-- the scope inside the first of these nodes, each of which is a child of the next
abbrev pub scope_of : Scope → List Content → Scope
scope_of outer [] = outer
scope_of outer (content ∷ above) = within content (scope_of outer above)

-- the namespaces in scope, each with its prefix: the default one first where it has a URI, then by prefix. The prefix `xml` is among them
abbrev pub is_there : List ℕ → Bool
is_there [] = false
is_there (c ∷ cs) = true

abbrev pub namespaces_in : Scope → List (List ℕ × List ℕ)
namespaces_in scope = filter (λ n. is_there n.1) (entries scope)

abbrev pub prefixed_name : Scope → List ℕ → List ℕ → Option Expanded
prefixed_name scope prefix local = option_map (λ uri. record { uri = uri; local = local }) (resolved scope prefix)

-- the expanded name of an element: without a prefix it is in the default namespace. None where the prefix is not declared
abbrev pub element_name : Scope → QName → Option Expanded
element_name scope name =
    elim name.prefix [
      | None ↦ Some (record { uri = unwrap_or (resolved scope []) []; local = name.local })
      | Some prefix ↦ prefixed_name scope prefix name.local
    ]

-- the expanded name of an attribute: without a prefix it is in no namespace
abbrev pub attribute_name : Scope → QName → Option Expanded
attribute_name scope name =
    elim name.prefix [
      | None ↦ Some (record { uri = []; local = name.local })
      | Some prefix ↦ prefixed_name scope prefix name.local
    ]

abbrev pub is_xml : List ℕ → Bool
is_xml prefix = bytes_eq prefix (codes "xml")

-- a declaration that is barred: no prefix can be undeclared, `xml` and its URI belong to each other alone, and neither the prefix `xmlns` nor its URI can be declared
abbrev pub is_barred : (prefix uri : List ℕ) → Bool
is_barred prefix uri =
    (is_there prefix && not (is_there uri))
    || (is_xml prefix && not (bytes_eq uri xml_uri))
    || (not (is_xml prefix) && bytes_eq uri xml_uri)
    || is_xmlns prefix
    || bytes_eq uri xmlns_uri

-- a target that a processing instruction may not have: `xml` in any case
abbrev pub is_either : ℕ → ℕ → ℕ → Bool
is_either a b c = bytes_eq (c ∷ []) (a ∷ []) || bytes_eq (c ∷ []) (b ∷ [])

abbrev pub is_reserved_target : List ℕ → Bool
is_reserved_target (x ∷ m ∷ l ∷ []) = is_either 0x78 0x58 x && is_either 0x6D 0x4D m && is_either 0x6C 0x4C l
is_reserved_target _ = false
