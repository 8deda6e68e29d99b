-- What the values of parameters stand for.
use Rattle.std.specs.Prelude.{ℕ, ◌≡◌, ◌<◌, Bool, List, Some, bytes_eq, string_bytes, if◌then◌else◌}
use Rattle.std.specs.HashMap.{spare}
use Rattle.std.specs.Map.{lookup}
use Rattle.std.specs.Str.{chars}
use Rattle.std.specs.String.{string_eq}
use Rattle.std.specs.declared.alloc.Global.{Global}
use Rattle.std.specs.declared.string.String.{String}
use Rattle.indexmap.specs.IndexMap.{insert_entry}
use Rattle.spec_run.specs.Documents as spec
use Rattle.xt_world.specs.declared.parameters.Before.{Before}
use Rattle.xt_world.specs.declared.parameters.Parameters.{Parameters}

-- whether a key has these characters
abbrev pub has_name : List ℕ → String Global → Bool
has_name name key = bytes_eq name (chars (string_bytes key))

-- the value of the parameter of each name
abbrev pub values_in : List (String Global × List ℕ) → spec.Parameters
values_in entries = λ name. lookup (has_name name) entries

abbrev pub parameters_of : Parameters → spec.Parameters
parameters_of given = values_in given.values.entries

-- with this value of the parameter of this name, in place of the one before
abbrev pub with_value : (name value : List ℕ) → spec.Parameters → spec.Parameters
with_value name value old = λ other. if bytes_eq other name then Some value else old other

-- one more may be kept without taking memory
abbrev pub HasRoomForOne : Parameters → Type 0
HasRoomForOne given = 0 < spare given.values

-- from old to new a value was given under the name of this, which holds the value before
pub record IsBefore (before : Before) (old new : Parameters) : Type 0 where
  pub key : String Global
  pub given : List ℕ
  pub name : string_bytes before.name ≡ string_bytes key
  pub value : before.value ≡ lookup (string_eq key) old.values.entries
  pub entries : new.values.entries ≡ insert_entry string_eq old.values.entries key given
