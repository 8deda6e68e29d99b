-- Reading modules with a list of the names that are still to be read.
use Rattle.std.specs.Prelude.{◌+◌, ℕ, List, [], ◌∷◌, length, if◌then◌else◌, string_bytes}
use Rattle.std.specs.Str.{chars}
use Rattle.std.specs.declared.alloc.Global.{Global}
use Rattle.std.specs.declared.string.String.{String}
use Rattle.spec_document.specs.Forest.{Document, plain}
use Rattle.spec_structure.specs.Modules.{Modules, Reads, is_among}
use Rattle.spec_structure.specs.Structure.{links_of}

-- the modules of these names are read one after another, after those read so far
pub data ReadsAll (modules : Modules) : List (List ℕ) → List (List ℕ) → List (List ℕ) → Type 0 where
  none_left : {done : List (List ℕ)} → ReadsAll modules done [] done
  next : {done between after names : List (List ℕ)} {name : List ℕ}
      → Reads modules done name between → ReadsAll modules between names after → ReadsAll modules done (name ∷ names) after

-- with these read and these left one comes to what one came to before
abbrev pub GoesOn : Modules → (done names before left : List (List ℕ)) → Type 0
GoesOn modules done names before left = (after : List (List ℕ)) → ReadsAll modules done names after → ReadsAll modules before left after

-- how many links the modules have that were not read
abbrev pub unread : List (List ℕ) → List (String Global × Document ℕ) → ℕ
unread done [] = 0
unread done (entry ∷ entries) =
    (if is_among (chars (string_bytes entry.0)) done then 0 else length (links_of 1 (plain entry.1.nodes))) + unread done entries
