-- Where the elements of a stylesheet stand.
use Rattle.std.specs.Prelude.{ℕ, List, Option}
use Rattle.spec_document.specs.Scope.{Scope}

-- the name of the module, and the child positions on the way down from its root, each from 1
pub record Place : Type 0 where
  pub module_name : Option (List ℕ)
  pub path : List ℕ

-- an element of a stylesheet: where it stands, and the namespaces in scope there, which names in its expressions and texts need
pub record Site : Type 0 where
  pub place : Place
  pub scope : Scope
