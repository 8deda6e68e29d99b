-- The names that attributes have so far, and the keys of sets that stand for them.
use Rattle.std.specs.Prelude.{ℕ, Bool, List, map, Option, Some, bytes_eq, string_bytes}
use Rattle.std.specs.List.{list_any}
use Rattle.std.specs.Str.{chars}
use Rattle.std.specs.declared.alloc.Global.{Global}
use Rattle.std.specs.declared.string.String.{String}
use Rattle.spec_document.specs.Name.{Expanded, same_expanded}

-- names as written, and expanded names
pub record NamesSoFar : Type 0 where
  pub written : List (List ℕ)
  pub expanded : List Expanded

-- whether a name is among those as written, and whether an expanded name, if it is one, is among those
abbrev pub is_written : List (List ℕ) → List ℕ → Bool
is_written names name = list_any (λ other. bytes_eq other name) names

abbrev pub is_expanded : List Expanded → Option Expanded → Bool
is_expanded names name = list_any (λ other. same_expanded (Some other) name) names

abbrev pub has_written : NamesSoFar → List ℕ → Bool
has_written names name = is_written names.written name

abbrev pub has_expanded : NamesSoFar → Option Expanded → Bool
has_expanded names name = is_expanded names.expanded name

-- what a key stands for
abbrev pub text_in : String Global → List ℕ
text_in key = chars (string_bytes key)

abbrev pub name_in : String Global × String Global → Expanded
name_in key = record { uri = text_in key.0; local = text_in key.1 }

abbrev pub texts_in : List (String Global) → List (List ℕ)
texts_in keys = map text_in keys

abbrev pub names_in : List (String Global × String Global) → List Expanded
names_in keys = map name_in keys
