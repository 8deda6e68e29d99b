-- Lines that are not UTF-8.
use Rattle.std.specs.Prelude.{ℕ, ◌+◌, List, [], ◌∷◌, Option, None, Some, if◌then◌else◌}
use Rattle.std.specs.Str.{is_utf8}
use Rattle.spec_document.specs.Fault.{Fault}

-- the number of the first that is not, where the lines are numbered from this number on
abbrev pub first_unread : ℕ → List (List ℕ) → Option ℕ
first_unread number [] = None
first_unread number (line ∷ lines) = if is_utf8 line then first_unread (number + 1) lines else Some number

abbrev pub unread_at : ℕ → Fault
unread_at line = record { number = 2; line = line }
