-- The characters of a text in memory that may be shared.
use Rattle.std.specs.Prelude.{ℕ, List, [], Option, None, Some, string_bytes}
use Rattle.std.specs.Str.{chars}
use Rattle.std.specs.declared.rc.Rc.{Rc}
use Rattle.std.specs.declared.string.String.{String}
use Rattle.std.specs.declared.alloc.Global.{Global}

abbrev pub characters_of : Option (Rc (String Global) Global) → List ℕ
characters_of None = []
characters_of (Some shared) = chars (string_bytes shared.value)
