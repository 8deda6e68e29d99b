-- What the modules say that were read, by their names.
use Rattle.std.specs.Prelude.{◌≡◌, ℕ, Bool, true, false, ◌||◌, List, [], ◌∷◌, Option, None, Some, Ok, bytes_eq}
use Rattle.std.specs.Map.{lookup}
use Rattle.std.specs.declared.alloc.Global.{Global}
use Rattle.std.specs.declared.string.String.{String}
use Rattle.std.specs.declared.vec.Vec.{Vec}
use Rattle.spec_document.specs.Forest.{Plain}
use Rattle.spec_structure.specs.Modules.{Modules}
use Rattle.spec_compile.specs.Reading.{Reads}
use Rattle.spec_compile.specs.Unit.{module_of}
use Rattle.spec_compile.specs.Sheet.{Said, said_by}
use Rattle.xt_import.specs.View.{is_name}
use Rattle.xt_top_level.specs.View.{top_levels_in}
use Rattle.xt_top_level.specs.declared.top_level.TopLevel.{TopLevel}

abbrev pub is_said : List ℕ → List Said → Bool
is_said name [] = false
is_said name (s ∷ more) = bytes_eq s.module_name name || is_said name more

-- what a module says of these, it says whenever it is read
pub record IsSaid (modules : Modules) (name : List ℕ) (said : List Said) : Type 0 where
  pub tree : Plain
  pub is : modules name ≡ Some tree
  pub reading : Reads (module_of name 1 tree) (Ok (said_by name said))

pub record Says (modules : Modules) (said : List Said) : Type 0 where
  pub so : (name : List ℕ) → is_said name said ≡ true → IsSaid modules name said

-- what is there, where it was not taken
abbrev pub in_slot : Option (Option (Vec TopLevel Global)) → Option (Vec TopLevel Global)
in_slot None = None
in_slot (Some slot) = slot

abbrev pub Fits : List ℕ → List Said → Option (Option (Vec TopLevel Global)) → Type 0
Fits name said None = is_said name said ≡ false
Fits name said (Some None) = is_said name said ≡ true
Fits name said (Some (Some top_levels)) = (is_said name said ≡ true) × (top_levels_in top_levels.items ≡ said_by name said)

pub record IsStock (said : List Said) (entries : List (String Global × Option (Vec TopLevel Global))) : Type 0 where
  pub so : (name : List ℕ) → Fits name said (lookup (is_name name) entries)
