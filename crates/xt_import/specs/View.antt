-- What the types of the program stand for.
use Rattle.std.specs.Prelude.{ℕ, Bool, List, map, bytes_eq, string_bytes}
use Rattle.std.specs.Map.{lookup}
use Rattle.std.specs.Option.{option_map}
use Rattle.std.specs.Str.{chars}
use Rattle.std.specs.declared.alloc.Global.{Global}
use Rattle.std.specs.declared.string.String.{String}
use Rattle.spec_document.specs.Forest.{Plain, Document, plain}
use Rattle.spec_structure.specs.Modules.{Modules}
use Rattle.spec_structure.specs.Structure.{Link}
use Rattle.xt_structure.specs.declared.links.Link as sheet

abbrev pub plain_of : Document ℕ → Plain
plain_of document = plain document.nodes

-- whether a key has these characters
abbrev pub is_name : List ℕ → String Global → Bool
is_name name key = bytes_eq name (chars (string_bytes key))

-- the module of each name
abbrev pub modules_in : List (String Global × Document ℕ) → Modules
modules_in entries = λ name. option_map plain_of (lookup (is_name name) entries)

-- which modules are named by links
abbrev pub hrefs_of : List Link → List (List ℕ)
hrefs_of links = map (λ l. l.href) links

abbrev pub hrefs_in : List sheet.Link → List (List ℕ)
hrefs_in links = map (λ l. l.href) links
