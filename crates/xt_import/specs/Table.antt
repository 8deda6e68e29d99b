-- The modules that were read, each with its links.
use Rattle.std.specs.Prelude.{◌≡◌, ℕ, Bool, true, not, List, [], ◌∷◌, map, Option, None, Some, nat_lt, position, slice_index, string_bytes, IsSome}
use Rattle.std.specs.List.{Contains, list_all}
use Rattle.std.specs.Str.{chars}
use Rattle.std.specs.declared.alloc.Global.{Global}
use Rattle.std.specs.declared.string.String.{String}
use Rattle.std.specs.declared.vec.Vec.{Vec}
use Rattle.spec_structure.specs.Modules as spec
use Rattle.spec_structure.specs.Modules.{Modules, Reaches}
use Rattle.spec_structure.specs.Structure.{Link}
use Rattle.xt_structure.specs.declared.links.Link as sheet
use Rattle.xt_structure.specs.View.{links_in}
use Rattle.xt_import.specs.View.{is_name}

abbrev pub Entry : Type 0
Entry = String Global × Vec sheet.Link Global

abbrev pub name_of : Entry → List ℕ
name_of entry = chars (string_bytes entry.0)

abbrev pub names_of : List Entry → List (List ℕ)
names_of entries = map name_of entries

-- the links of each module, in the same order
abbrev pub lists_of : List Entry → List (List Link)
lists_of entries = map (λ e. links_in e.1.items) entries

-- ---- Numbers of modules, which show that links do not lead back

abbrev pub number_by : List ℕ → Option ℕ → ℕ
number_by numbers None = 0
number_by numbers (Some place) = slice_index numbers place

-- the number of the module of this name, and 0 where it was not read
abbrev pub number_in : List Entry → List ℕ → List ℕ → ℕ
number_in entries numbers name = number_by numbers (position (is_name name) (map (λ e. e.0) entries))

-- each link leads from its module to one of no greater number
abbrev pub none_rises : (List ℕ → ℕ) → ℕ → List sheet.Link → Bool
none_rises number own links = list_all (λ l. not (nat_lt own (number l.href))) links

abbrev pub none_rise : (List ℕ → ℕ) → List Entry → Bool
none_rise number entries = list_all (λ e. none_rises number (number (name_of e)) e.1.items) entries

-- a link of the module of this name leads back to it
abbrev pub LeadsBack : Modules → List ℕ → Link → Type 0
LeadsBack modules name link = IsSome (modules link.href) × Reaches modules link.href name

-- where one leads to a lesser number, it does not
abbrev pub NoneFallsBack : Modules → (List ℕ → ℕ) → List ℕ → List Link → Type 0
NoneFallsBack modules number name links = (l : Link) → Contains links l → nat_lt (number l.href) (number name) ≡ true → LeadsBack modules name l → ⊥

-- what is known of a module of the table before its links are judged: they are its links, it is there, and none that leads to a lesser
-- number leads back
abbrev pub IsKnown : Modules → (List ℕ → ℕ) → List ℕ → List Link → Type 0
IsKnown modules number name links =
    (links ≡ spec.links_in modules name) × IsSome (modules name) × NoneFallsBack modules number name links

abbrev pub AreKnown : Modules → (List ℕ → ℕ) → List Entry → Type 0
AreKnown modules number [] = Unit {0}
AreKnown modules number (e ∷ es) = IsKnown modules number (name_of e) (links_in e.1.items) × AreKnown modules number es
