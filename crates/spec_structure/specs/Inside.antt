-- What is in force inside an element of a stylesheet module: the namespaces in scope, whether white space is preserved (XSLT 1.0, section
-- 3.4), and the namespaces of extension elements (section 14.1); and what an element is by its name.
use Rattle.std.specs.Prelude.{ℕ, Bool, true, false, List, [], ◌∷◌, ◌++◌, Option, None, Some, bytes_eq, codes, if◌then◌else◌}
use Rattle.std.specs.Option.{option_and_then}
use Rattle.std.specs.List.{list_all, list_any, flat_map}
use Rattle.spec_document.specs.Character.{is_space}
use Rattle.spec_document.specs.Name.{Expanded, qname_of, same_expanded}
use Rattle.spec_document.specs.Scope.{Scope, root_scope, resolved, xml_uri, xslt_uri}
use Rattle.spec_document.specs.Declaration.{declared_all, is_declaration, attribute_name, element_name, is_there}
use Rattle.spec_document.specs.Forest.{Written}
use Rattle.spec_expression.specs.Strings.{words}
use Rattle.spec_structure.specs.declared.element.XsltElement.{XsltElement}
use Rattle.spec_structure.specs.Elements.{element_named}

pub record Inside : Type 0 where
  pub scope : Scope
  pub preserves : Bool
  -- the URIs of the namespaces of extension elements
  pub extensions : List (List ℕ)

-- at the root of a module
abbrev pub outside : Inside
outside = record { scope = root_scope; preserves = false; extensions = [] }

-- ---- Attributes by their expanded names

abbrev pub in_no_namespace : List ℕ → Expanded
in_no_namespace local = record { uri = []; local = local }

abbrev pub of_xslt : List ℕ → Expanded
of_xslt local = record { uri = xslt_uri; local = local }

-- a declaration is no attribute
abbrev pub expanded_of : Scope → Written → Option Expanded
expanded_of scope a = if is_declaration a then None else option_and_then (attribute_name scope) (qname_of a.name)

-- the value of the attribute of this name
abbrev pub value_of : Scope → Expanded → List Written → Option (List ℕ)
value_of scope name [] = None
value_of scope name (a ∷ more) = if same_expanded (expanded_of scope a) (Some name) then Some a.value else value_of scope name more

-- ---- What an element is by its name

pub data Role : Type 0 where
  -- an element of XSLT, where the name is known
  OfXslt : (element : Option XsltElement) → Role
  OfExtension : Role
  -- any other, with the URI of its name
  OfOther : (uri : List ℕ) → Role

abbrev pub role_by : List (List ℕ) → Option Expanded → Role
role_by extensions None = OfOther []
role_by extensions (Some name) =
    if bytes_eq name.uri xslt_uri then OfXslt (element_named name.local)
    else (if list_any (bytes_eq name.uri) extensions then OfExtension else OfOther name.uri)

-- by the names in force inside it
abbrev pub role_of : Inside → List ℕ → Role
role_of inside name = role_by inside.extensions (option_and_then (element_name inside.scope) (qname_of name))

-- ---- From an element to what is inside it

-- the URI of a prefix in a list of prefixes, where `#default` is the default namespace; none where it is not declared
abbrev pub uri_of : Scope → List ℕ → Option (List ℕ)
uri_of scope word = if bytes_eq word (codes "#default") then resolved scope [] else resolved scope word

abbrev pub uris_by : Option (List ℕ) → List (List ℕ)
uris_by None = []
uris_by (Some uri) = if is_there uri then uri ∷ [] else []

abbrev pub uris_in : Scope → Option (List ℕ) → List (List ℕ)
uris_in scope None = []
uris_in scope (Some list) = flat_map (λ word. uris_by (uri_of scope word)) (words list)

-- the attribute that names extension namespaces: of a stylesheet without a prefix, of a literal result element in XSLT's namespace
abbrev pub is_xslt_name : Option Expanded → Bool
is_xslt_name None = false
is_xslt_name (Some name) = bytes_eq name.uri xslt_uri

abbrev pub extension_name : Bool → Expanded
extension_name is_xslt = if is_xslt then in_no_namespace (codes "extension-element-prefixes") else of_xslt (codes "extension-element-prefixes")

abbrev pub space_by : Bool → Option (List ℕ) → Bool
space_by before None = before
space_by before (Some value) = if bytes_eq value (codes "preserve") then true else (if bytes_eq value (codes "default") then false else before)

abbrev pub space_name : Expanded
space_name = record { uri = xml_uri; local = codes "space" }

-- what is in force inside an element of this name and these attributes
abbrev pub inside_with : Scope → Inside → List ℕ → List Written → Inside
inside_with scope outer name attributes = record {
  scope = scope;
  preserves = space_by outer.preserves (value_of scope space_name attributes);
  extensions = outer.extensions
      ++ uris_in scope (value_of scope (extension_name (is_xslt_name (option_and_then (element_name scope) (qname_of name)))) attributes);
}

abbrev pub inside_of : Inside → List ℕ → List Written → Inside
inside_of outer name attributes = inside_with (declared_all attributes outer.scope) outer name attributes

abbrev pub is_white : List ℕ → Bool
is_white text = list_all is_space text
