-- Names of another local part are other names, whatever their prefixes stand for.
use Rattle.std.proofs.Common.{◌≡◌, ℕ, Bool, true, false, List, Option, Some, None, refl}
use Rattle.std.specs.Prelude.{◌&&◌, bytes_eq}
use Rattle.std.specs.Option.{option_map, option_and_then}
use Rattle.spec_document.specs.Declaration.{element_name, attribute_name}
use Rattle.spec_document.specs.Forest as spec
use Rattle.spec_document.specs.Name.{Expanded, QName, qname_of, same_expanded}
use Rattle.spec_document.specs.Place.{name_by}
use Rattle.spec_document.specs.Scope.{Scope, resolved}
use Rattle.xt_tree.specs.Local.{has_local, is_local}

false_right : (a b : Bool) → b ≡ false → (a && b) ≡ false
false_right true b h = h
false_right false b h = refl

by_uri : (wanted : Expanded) (local : List ℕ) (uri : Option (List ℕ)) → bytes_eq wanted.local local ≡ false
    → same_expanded (Some wanted) (option_map (λ u. record { uri = u; local = local }) uri) ≡ false
by_uri wanted local None h = refl
by_uri wanted local (Some u) h = false_right (bytes_eq wanted.uri u) (bytes_eq wanted.local local) h

element : (wanted : Expanded) (scope : Scope) (prefix : Option (List ℕ)) (local : List ℕ) → bytes_eq wanted.local local ≡ false
    → same_expanded (Some wanted) (element_name scope (record { prefix = prefix; local = local })) ≡ false
element wanted scope None local h = false_right _ (bytes_eq wanted.local local) h
element wanted scope (Some p) local h = by_uri wanted local (resolved scope p) h

attribute : (wanted : Expanded) (scope : Scope) (prefix : Option (List ℕ)) (local : List ℕ) → bytes_eq wanted.local local ≡ false
    → same_expanded (Some wanted) (attribute_name scope (record { prefix = prefix; local = local })) ≡ false
attribute wanted scope None local h = false_right _ (bytes_eq wanted.local local) h
attribute wanted scope (Some p) local h = by_uri wanted local (resolved scope p) h

other_element : (wanted : Expanded) (scope : Scope) (name : Option QName) → is_local wanted.local name ≡ false
    → same_expanded (Some wanted) (option_and_then (element_name scope) name) ≡ false
other_element wanted scope None h = refl
other_element wanted scope (Some name) h = element wanted scope name.prefix name.local h

pub other_attribute : (wanted : Expanded) (scope : Scope) (name : Option QName) → is_local wanted.local name ≡ false
    → same_expanded (Some wanted) (option_and_then (attribute_name scope) name) ≡ false
other_attribute wanted scope None h = refl
other_attribute wanted scope (Some name) h = attribute wanted scope name.prefix name.local h

pub other_node : (wanted : Expanded) (scope : Scope) (content : spec.Content) → has_local wanted.local content ≡ false
    → same_expanded (Some wanted) (name_by (Some content) scope) ≡ false
other_node wanted scope (spec.Element name attributes) h = other_element wanted scope (qname_of name) h
other_node wanted scope (spec.Text text) h = refl
other_node wanted scope (spec.Comment text) h = refl
other_node wanted scope (spec.Instruction target text) h = false_right _ (bytes_eq wanted.local target) h
