-- What the words of a command line ask: a session by `xt session`, and a demonstration by `xt demo N`. This is what `clap` makes of a command
-- with these two subcommands, of which `demo` has one argument, without flags and without help: it refuses all other words.
use Rattle.std.specs.Prelude.{ℕ, Bool, true, false, ◌&&◌, nat_le, List, [], ◌∷◌, length, bytes_eq, codes, if◌then◌else◌}
use Rattle.std.specs.List.{list_all}
use Rattle.spec_session.specs.declared.kinds.Asked.{Asked}
use Rattle.spec_session.specs.declared.kinds.Asked.TheVariants.{Session, Demonstration, Nothing}
use Rattle.spec_session.specs.Request.{is_digit, number_from}

-- a size: 1 to 4 digits of value 1 to 1000
abbrev pub is_size : List ℕ → Bool
is_size word = list_all is_digit word && nat_le (length word) 4 && nat_le 1 (number_from 0 word) && nat_le (number_from 0 word) 1000

-- The words behind that of a command without the first `--`, if one is there: it says that no word behind it is a flag, and stands for nothing
abbrev pub values_in : List (List ℕ) → List (List ℕ)
values_in [] = []
values_in (word ∷ words) = if bytes_eq word (codes "--") then words else word ∷ values_in words

abbrev pub session_of_values : List (List ℕ) → Asked
session_of_values [] = Session
session_of_values (value ∷ more) = Nothing

abbrev pub demonstration_of_values : List (List ℕ) → Asked
demonstration_of_values [] = Nothing
demonstration_of_values (value ∷ []) = if is_size value then Demonstration (number_from 0 value) else Nothing
demonstration_of_values (value ∷ next ∷ more) = Nothing

-- what this command asks with these words behind it
abbrev pub asked_by : List ℕ → List (List ℕ) → Asked
asked_by command words =
    if bytes_eq command (codes "session") then session_of_values (values_in words)
    else (if bytes_eq command (codes "demo") then demonstration_of_values (values_in words) else Nothing)

-- what the words of a command line ask, as bytes, the program's name first
abbrev pub asked_of : List (List ℕ) → Asked
asked_of [] = Nothing
asked_of (name ∷ []) = Nothing
asked_of (name ∷ command ∷ words) = asked_by command words

abbrev pub is_session : Asked → Bool
is_session Session = true
is_session (Demonstration n) = false
is_session Nothing = false

abbrev pub asks_session : List (List ℕ) → Bool
asks_session words = is_session (asked_of words)

-- what is written where the words ask for nothing
abbrev pub usage_line : List ℕ
usage_line = codes "usage: xt session | demo N\n"
