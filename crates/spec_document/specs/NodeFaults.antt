-- The faults of nodes themselves: their names and declarations, their depth, their attributes (XML 1.0, section 3.1; Namespaces in
-- XML 1.0, sections 3 to 6).
use Rattle.std.specs.Prelude.{ℕ, ◌+◌, Bool, true, not, ◌||◌, nat_lt, List, [], ◌∷◌, ◌++◌, drop, slice_index, Option, None, is_none, bytes_eq}
use Rattle.std.specs.Option.{option_and_then}
use Rattle.std.specs.List.{list_any}
use Rattle.spec_document.specs.declared.usage.AttributeUse.TheVariants.{Declares, Names, NoName}
use Rattle.spec_document.specs.Name.{qname_of, is_ncname, Expanded, same_expanded}
use Rattle.spec_document.specs.Scope.{Scope}
use Rattle.spec_document.specs.Forest.{Written, Content, Element, Text, Comment, Instruction, Forest, Empty, Node}
use Rattle.spec_document.specs.Declaration.{PlainUse, use_of, within, element_name, attribute_name, is_barred, is_reserved_target}
use Rattle.spec_document.specs.Fault.{Fault, fault_if}
use Rattle.spec_document.specs.Balance.{LineNumbers}

-- 10: a name that is no QName or has a prefix that is not declared, or a declaration that is barred
abbrev pub is_wrong_use : Scope → PlainUse → List ℕ → Bool
is_wrong_use scope (Declares prefix) uri = is_barred prefix uri
is_wrong_use scope (Names name) value = is_none (attribute_name scope name)
is_wrong_use scope NoName value = true

abbrev pub is_wrong_element : Scope → List ℕ → Bool
is_wrong_element scope name = is_none (option_and_then (element_name scope) (qname_of name))

-- 10: a target that is no NCName, or is reserved
abbrev pub is_wrong_target : List ℕ → Bool
is_wrong_target target = not (is_ncname target) || is_reserved_target target

abbrev pub expanded_by : Scope → PlainUse → Option Expanded
expanded_by scope (Declares prefix) = None
expanded_by scope (Names name) = attribute_name scope name
expanded_by scope NoName = None

-- 14: an attribute or declaration of one written name with another, or an attribute of one expanded name with another
abbrev pub is_same_attribute : Scope → Written → Written → Bool
is_same_attribute scope a b = bytes_eq a.name b.name || same_expanded (expanded_by scope (use_of a.name)) (expanded_by scope (use_of b.name))

-- the faults of attributes, where these stand before them
abbrev pub attribute_faults : Scope → List Written → List ℕ → List Written → List Fault
attribute_faults scope before lines [] = []
attribute_faults scope before lines (a ∷ attributes) =
    let line = slice_index lines 0 in
    fault_if (is_wrong_use scope (use_of a.name) a.value) 10 line
    ++ fault_if (list_any (λ b. is_same_attribute scope b a) before) 14 line
    ++ attribute_faults scope (before ++ a ∷ []) (drop 1 lines) attributes

abbrev pub greatest_depth : ℕ
greatest_depth = 256

-- the faults of a node itself, whose inside has this scope, and which stands at this depth if it is an element
abbrev pub content_faults : Scope → ℕ → LineNumbers → Content → List Fault
content_faults scope depth lines (Element name attributes) =
    fault_if (is_wrong_element scope name) 10 lines.first
    ++ fault_if (nat_lt greatest_depth depth) 11 lines.first
    ++ attribute_faults scope [] lines.attributes attributes
content_faults scope depth lines (Text text) = []
content_faults scope depth lines (Comment text) = []
content_faults scope depth lines (Instruction target text) = fault_if (is_wrong_target target) 10 lines.first

-- the faults of siblings and of what is below them
abbrev pub node_faults : Scope → ℕ → Forest LineNumbers → List Fault
node_faults scope depth Empty = []
node_faults scope depth (Node lines content children siblings) =
    content_faults (within content scope) depth lines content ++ node_faults (within content scope) (depth + 1) children ++ node_faults scope depth siblings
