-- The elements at the top of a module by their places.
use Rattle.std.specs.Prelude.{◌≡◌, ℕ, Bool, List, [], ◌∷◌, Option, None, Some, bytes_eq}
use Rattle.std.specs.List.{filter}
use Rattle.std.specs.Map.{lookup}
use Rattle.std.specs.Option.{option_map}
use Rattle.std.specs.declared.alloc.Global.{Global}
use Rattle.std.specs.declared.vec.Vec.{Vec}
use Rattle.spec_compile.specs.Sheet.{is_at}
use Rattle.spec_compile.specs.Unit as unit
use Rattle.xt_top_level.specs.View.{top_levels_in}
use Rattle.xt_top_level.specs.declared.top_level.TopLevel.{TopLevel}

abbrev pub is_path : List ℕ → Vec ℕ Global → Bool
is_path path key = bytes_eq path key.items

abbrev pub items_of : Option (Vec TopLevel Global) → Option (List unit.TopLevel)
items_of o = option_map (λ v. top_levels_in v.items) o

-- those that are found
abbrev pub kept_of : Option (Vec TopLevel Global) → List unit.TopLevel
kept_of None = []
kept_of (Some v) = top_levels_in v.items

abbrev pub FitsAll : List unit.TopLevel → Option (List unit.TopLevel) → Type 0
FitsAll there None = there ≡ []
FitsAll there (Some kept) = kept ≡ there

-- what is taken may be missing
abbrev pub FitsLeft : List unit.TopLevel → Option (List unit.TopLevel) → Type 0
FitsLeft there None = there ≡ []
FitsLeft there (Some []) = Unit {0}
FitsLeft there (Some (t ∷ ts)) = (t ∷ ts) ≡ there

-- each is at its place
pub record IsOpened (all : List unit.TopLevel) (entries : List (Vec ℕ Global × Vec TopLevel Global)) : Type 0 where
  pub so : (path : List ℕ) → FitsAll (filter (is_at path) all) (items_of (lookup (is_path path) entries))

-- each that was not taken is at its place
pub record IsLeft (all : List unit.TopLevel) (entries : List (Vec ℕ Global × Vec TopLevel Global)) : Type 0 where
  pub so : (path : List ℕ) → FitsLeft (filter (is_at path) all) (items_of (lookup (is_path path) entries))
