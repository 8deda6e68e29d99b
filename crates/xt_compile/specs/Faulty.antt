-- The modules in which faults between elements stand.
use Rattle.std.specs.Prelude.{◌≡◌, ℕ, false, List, []}
use Rattle.std.specs.List.{filter, list_any}
use Rattle.std.specs.declared.alloc.Global.{Global}
use Rattle.std.specs.declared.string.String.{String}
use Rattle.spec_compile.specs.Scoping.{Violation}
use Rattle.spec_compile.specs.Sheet.{is_in}
use Rattle.xt_import.specs.View.{is_name}

-- none stands in a module that is not among these
pub record AreFaulty (violations : List Violation) (names : List (String Global)) : Type 0 where
  pub so : (name : List ℕ) → list_any (is_name name) names ≡ false → filter (is_in name) violations ≡ []
