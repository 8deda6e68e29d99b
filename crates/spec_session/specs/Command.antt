-- The commands that lines are, each with its body, and how the lines end.
use Rattle.std.specs.Prelude.{ℕ, Bool, true, false, ◌||◌, List, [], ◌∷◌, ◌++◌, length, ◌==◌, bytes_eq, codes, if◌then◌else◌}
use Rattle.spec_lines.specs.Lines.{head_of}
use Rattle.spec_session.specs.declared.kinds.LineKind.{LineKind}
use Rattle.spec_session.specs.declared.kinds.LineKind.TheVariants.{Empty, Quit as QuitLine, WithBody, Alone}
use Rattle.spec_session.specs.declared.kinds.Ending.{Ending}
use Rattle.spec_session.specs.declared.kinds.Ending.TheVariants.{Finished, Quit, Unfinished}

-- a command's line and the lines of its body, in bytes
pub record Command : Type 0 where
  pub line : List ℕ
  pub body : List (List ℕ)

-- the head of a line whose first word is this word of six letters
abbrev pub begins_with_word : List ℕ → List ℕ → Bool
begins_with_word word head = bytes_eq head word || bytes_eq head (word ++ 0x20 ∷ [])

-- `source`, `module` and `insert` have a body, whatever their arguments
abbrev pub has_body : List ℕ → Bool
has_body head = begins_with_word (codes "source") head || begins_with_word (codes "module") head || begins_with_word (codes "insert") head

-- what a line between two commands is, by its head
abbrev pub kind_of : List ℕ → LineKind
kind_of head = if length head == 0 then Empty else (if bytes_eq head (codes "quit") then QuitLine else (if has_body head then WithBody else Alone))

-- the line that ends a body
abbrev pub is_end : List ℕ → Bool
is_end line = bytes_eq line (codes ".")

-- a session: the whole commands in their order, and how the lines end
pub record Session : Type 0 where
  pub commands : List Command
  pub ending : Ending

abbrev pub ended : Ending → Session
ended ending = record { commands = []; ending = ending }

-- one more command in front
abbrev pub after : Command → Session → Session
after command session = record { commands = command ∷ session.commands; ending = session.ending }

abbrev mutual
  -- the commands that lines are, up to their end or to `quit`; empty lines between two commands are skipped
  pub session_of : List (List ℕ) → Session
  session_of [] = ended Finished
  session_of (line ∷ lines) = elim (kind_of (head_of line)) [
    | Empty ↦ session_of lines
    | QuitLine ↦ ended Quit
    | WithBody ↦ session_with line [] lines
    | Alone ↦ after (record { line = line; body = [] }) (session_of lines)
  ]

  -- the same inside the body of the command with this line, of which these lines are read; the body goes up to a line `.`
  pub session_with : List ℕ → List (List ℕ) → List (List ℕ) → Session
  session_with line body [] = ended Unfinished
  session_with line body (next ∷ lines) = elim (is_end next) [
    | true ↦ after (record { line = line; body = body }) (session_of lines)
    | false ↦ session_with line (body ++ next ∷ []) lines
  ]

-- the status of a call of the program: 0 at the end of the lines or at `quit`; 5 where the source goes on after the
-- bytes that may be taken; 4 where it ends inside a body
abbrev pub status_of : Bool → Ending → ℕ
status_of goes_on Quit = 0
status_of goes_on Finished = if goes_on then 5 else 0
status_of goes_on Unfinished = if goes_on then 5 else 4
