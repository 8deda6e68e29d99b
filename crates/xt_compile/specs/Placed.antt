-- What is still to be put in place.
use Rattle.std.specs.Prelude.{◌≡◌, ℕ, ◌++◌, Bool, true, false, List, [], ◌∷◌, map, Option, None, Some}
use Rattle.std.specs.HashMap.{HashMap}
use Rattle.std.specs.List.{flat_map}
use Rattle.std.specs.Map.{lookup}
use Rattle.std.specs.declared.alloc.Global.{Global}
use Rattle.std.specs.declared.string.String.{String}
use Rattle.std.specs.declared.vec.Vec.{Vec}
use Rattle.spec_structure.specs.Modules.{Modules, Part}
use Rattle.spec_compile.specs.Sheet as spec
use Rattle.spec_compile.specs.Sheet.{Said, said_by}
use Rattle.spec_compile.specs.Unit as unit
use Rattle.xt_import.specs.View.{is_name}
use Rattle.xt_scoping.specs.View.{ranked_in}
use Rattle.xt_scoping.specs.declared.violation.Ranked.{Ranked}
use Rattle.xt_top_level.specs.declared.top_level.TopLevel.{TopLevel}
use Rattle.xt_compile.specs.Opened.{IsLeft}
use Rattle.xt_compile.specs.Stock.{IsStock, Says}
use Rattle.xt_compile.specs.declared.placing.Placing.{Placing}

abbrev pub is_none_left : List TopLevel → Bool
is_none_left [] = true
is_none_left (t ∷ ts) = false

-- what is left of a module that is opened
abbrev pub MayBeLeft : {S : Type 0} → List unit.TopLevel → Option (HashMap (Vec ℕ Global) (Vec TopLevel Global) S) → Type 0
MayBeLeft all None = Unit {0}
MayBeLeft all (Some opened) = IsLeft all opened.entries

-- each module that is opened is what is left of what it says
pub record AreOpened {S : Type 0} (said : List Said) (entries : List (String Global × HashMap (Vec ℕ Global) (Vec TopLevel Global) S)) : Type 0 where
  pub so : (name : List ℕ) → MayBeLeft (said_by name said) (lookup (is_name name) entries)

pub record IsPlacing (said : List Said) (p : Placing) : Type 0 where
  pub stock : IsStock said p.stock.entries
  pub opened : AreOpened said p.opened.entries

-- these parts were added
pub record Places (modules : Modules) (precedence imported : ℕ) (parts : List Part) (old new : Placing) (before after : List Ranked) : Type 0 where
  pub stays : (said : List Said) → Says modules said → IsPlacing said old → IsPlacing said new
  pub added : (said : List Said) → Says modules said → IsPlacing said old
      → map ranked_in after ≡ map ranked_in before ++ map (spec.ranked precedence imported) (flat_map (spec.part_of said) parts)
