-- What is left of modules of which some were taken out and put back.
use Rattle.std.specs.Prelude.{ℕ, ◌≡◌, List}
use Rattle.std.specs.Map.{lookup}
use Rattle.std.specs.declared.alloc.Global.{Global}
use Rattle.std.specs.declared.string.String.{String}
use Rattle.spec_document.specs.Forest.{Document}
use Rattle.xt_import.specs.View.{is_name}

-- the module of each name is the same, whatever the order
pub record AreSame (old new : List (String Global × Document ℕ)) : Type 0 where
  pub so : (name : List ℕ) → lookup (is_name name) new ≡ lookup (is_name name) old
