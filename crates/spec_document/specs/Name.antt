-- Names (Namespaces in XML 1.0, productions 4 and 7 to 11).
use Rattle.std.specs.Prelude.{ℕ, Bool, false, bytes_eq, ◌&&◌, ◌==◌, List, [], ◌∷◌, Option, None, Some, if◌then◌else◌}
use Rattle.std.specs.List.{list_all, before_first, after_first}
use Rattle.spec_document.specs.Character.{is_name_start, is_name_part}

-- NCName: a name without a colon
abbrev pub is_ncname : List ℕ → Bool
is_ncname [] = false
is_ncname (c ∷ cs) = is_name_start c && list_all is_name_part cs

-- a QName in its parts
pub record QName : Type 0 where
  pub prefix : Option (List ℕ)
  pub local : List ℕ

abbrev pub is_colon : ℕ → Bool
is_colon c = c == 0x3A

-- the QName that a text is: an NCName, or two of them parted by a colon
abbrev pub qname_of : List ℕ → Option QName
qname_of text =
    if is_ncname text then Some (record { prefix = None; local = text })
    else (if is_ncname (before_first is_colon text) && is_ncname (after_first is_colon text)
    then Some (record { prefix = Some (before_first is_colon text); local = after_first is_colon text })
    else None)

-- an expanded name: a namespace URI, empty for no namespace, and a local part
pub record Expanded : Type 0 where
  pub uri : List ℕ
  pub local : List ℕ

-- whether two expanded names are the same, and whether two names that may have none are
abbrev pub same_name : Expanded → Expanded → Bool
same_name a b = bytes_eq a.uri b.uri && bytes_eq a.local b.local

abbrev pub same_expanded : Option Expanded → Option Expanded → Bool
same_expanded (Some a) (Some b) = same_name a b
same_expanded _ _ = false
