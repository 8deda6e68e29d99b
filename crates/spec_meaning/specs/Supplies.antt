-- What is at hand of what an instantiation may need of its run.
use Rattle.std.specs.Prelude.{ℕ, ◌&&◌, List, [], ◌∷◌, nat_le, Option, None, Some, if◌then◌else◌}
use Rattle.spec_document.specs.Name.{Expanded, same_name}
use Rattle.spec_meaning.specs.Value.{Value}
use Rattle.spec_meaning.specs.Program.{CurrentRule, Given, Counted, Ruled, Valued, Supply, Position, Size, Rule, Global}

-- a global that was given, for references in contents up to so deep below the level of the instantiation
pub record Known (N : Type 0) : Type 0 where
  pub name : Expanded
  pub depth : ℕ
  pub value : Value N

-- the position and size of the instantiation, its current template rule, and the globals that were given
pub record Supplies (N : Type 0) : Type 0 where
  pub position : ℕ
  pub size : ℕ
  pub rule : Option CurrentRule
  pub globals : List (Known N)

abbrev pub found : {N : Type 0} → Expanded → ℕ → List (Known N) → Option (Given N)
found name depth [] = None
found name depth (k ∷ ks) = if same_name k.name name && nat_le depth k.depth then Some (Valued k.value) else found name depth ks

-- at a depth
abbrev pub at_hand : {N : Type 0} → Supplies N → ℕ → Supply N
at_hand s depth Position = Some (Counted s.position)
at_hand s depth Size = Some (Counted s.size)
at_hand s depth Rule = Some (Ruled s.rule)
at_hand s depth (Global name) = found name depth s.globals
