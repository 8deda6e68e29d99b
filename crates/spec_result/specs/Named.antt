-- Whether the names of a tree are those of what stands: read with the declarations in force there, each element and each attribute has its
-- expanded name (Namespaces in XML 1.0, sections 5 and 6).
use Rattle.std.specs.Prelude.{◌≡◌, ◌<◌, ◌^◌, ℕ, true, length, List, [], ◌∷◌, map, Option, None, Some}
use Rattle.std.specs.Option.{option_map, option_and_then}
use Rattle.spec_document.specs.declared.usage.AttributeUse.TheVariants.{Declares, Names, NoName}
use Rattle.spec_document.specs.Name.{Expanded, is_ncname, qname_of}
use Rattle.spec_document.specs.Scope.{Scope}
use Rattle.spec_document.specs.Declaration.{is_there, use_of, declared_all, element_name, attribute_name, namespaces_in}
use Rattle.spec_document.specs.Forest as forest
use Rattle.spec_document.specs.Forest.{Plain, Written, Empty, Node}
use Rattle.spec_result.specs.Recovery.{Given, NamespaceNode, Standing, Nothing, AnElement, AText, AComment, AnInstruction}
use Rattle.spec_result.specs.Shape.{Opening, begun, settle, needing, with_nodes, with_attribute, prefix_for, opened}

-- an attribute by its expanded name, and its value
pub record Meaning : Type 0 where
  pub uri : List ℕ
  pub local : List ℕ
  pub value : List ℕ

abbrev pub meaning_of : Given → Meaning
meaning_of a = record { uri = a.uri; local = a.local; value = a.value }

-- what written attributes mean in a scope, in their order, but for declarations; none where a name cannot be read
abbrev pub meaning_before : List ℕ → Option Expanded → Option (List Meaning) → Option (List Meaning)
meaning_before value None others = None
meaning_before value (Some name) others = option_map (λ ms. record { uri = name.uri; local = name.local; value = value } ∷ ms) others

abbrev pub meanings_in : Scope → List Written → Option (List Meaning)
meanings_in scope [] = Some []
meanings_in scope (a ∷ more) =
    elim (use_of a.name) [
      | Declares prefix ↦ meanings_in scope more
      | Names name ↦ meaning_before a.value (attribute_name scope name) (meanings_in scope more)
      | NoName ↦ None
    ]

-- what an element's written name means in a scope
abbrev pub element_meaning : Scope → List ℕ → Option Expanded
element_meaning scope name = option_and_then (element_name scope) (qname_of name)

-- the tree has the names of what stands
abbrev pub IsNamed : Scope → Standing → Plain → Type 0
IsNamed scope (AnElement prefix local uri namespaces attributes children siblings) (Node label (forest.Element name written) inner rest) =
    let inside = declared_all written scope in
    (element_meaning inside name ≡ Some (record { uri = uri; local = local })) × (meanings_in inside written ≡ Some (map meaning_of attributes))
    × IsNamed inside children inner × IsNamed scope siblings rest
IsNamed scope (AText text siblings) (Node label (forest.Text t) inner rest) = IsNamed scope siblings rest
IsNamed scope (AComment text siblings) (Node label (forest.Comment t) inner rest) = IsNamed scope siblings rest
IsNamed scope (AnInstruction target text siblings) (Node label (forest.Instruction u t) inner rest) = IsNamed scope siblings rest
IsNamed scope Nothing Empty = Unit {0}
IsNamed _ _ _ = ⊥

-- ---- Of which streams that is said, by what stands of them. Of attributes nothing is asked: those that stand have good names

-- the names of elements are QNames: their parts are NCNames, and the prefix may be none
abbrev pub IsPrefix : List ℕ → Type 0
IsPrefix [] = Unit {0}
IsPrefix (c ∷ cs) = is_ncname (c ∷ cs) ≡ true

-- a copied namespace node has an NCName as its prefix or none, and undeclares no prefix
abbrev pub AreNodes : List NamespaceNode → Type 0
AreNodes [] = Unit {0}
AreNodes (node ∷ nodes) = IsPrefix node.0 × (is_there node.0 ≡ true → is_there node.1 ≡ true) × AreNodes nodes

-- where a prefix is to be made for an attribute, fewer than 2^63 namespaces are in scope
abbrev pub HasRoom : List Given → Opening → Type 0
HasRoom [] o = Unit {0}
HasRoom (a ∷ more) o = (length (namespaces_in o.scope) < 2 ^ 63) × HasRoom more (with_attribute a o)

abbrev pub IsGood : Scope → Standing → Type 0
IsGood scope Nothing = Unit {0}
IsGood scope (AnElement prefix local uri namespaces attributes children siblings) =
    let own = prefix_for prefix uri in
    IsPrefix prefix × (is_ncname local ≡ true) × AreNodes namespaces
    × HasRoom attributes (with_nodes namespaces (settle own (needing own uri (begun scope))))
    × IsGood (opened scope own uri namespaces attributes).scope children × IsGood scope siblings
IsGood scope (AText text siblings) = IsGood scope siblings
IsGood scope (AComment text siblings) = IsGood scope siblings
IsGood scope (AnInstruction target text siblings) = IsGood scope siblings
