-- The generated session: the commands that a demonstration of a size answers, and the summary of the replies.
--     generated    the commands, as a user would type them
--     summary      what is written of the replies
use Rattle.std.specs.Prelude.{ℕ, zero, suc, ◌+◌, ◌-◌, ◌*◌, ◌/◌, ◌%◌, ◌==◌, Bool, List, [], ◌∷◌, ◌++◌, length, take, codes, decimal, count_by, bytes_eq, if◌then◌else◌}
use Rattle.std.specs.List.{flat_map}
use Rattle.spec_session.specs.Command.{Command}
use Rattle.spec_session.specs.Reply.{Reply, reply_bytes, with_newline}

-- ---- Numbers that are drawn

-- Each draw changes the state of the draws, which begins with the size, and its number comes from the state behind it
abbrev pub next_state : ℕ → ℕ
next_state state = (state * 1103515245 + 12345) % 2147483648

-- the number below `bound` that the draw gives which leaves this state
abbrev pub drawn : ℕ → ℕ → ℕ
drawn state bound = (state / 65536) % bound

-- a value of three digits, and the number of one of so many rows
abbrev pub value_drawn : ℕ → List ℕ
value_drawn state = decimal (100 + drawn state 900)

abbrev pub row_drawn : ℕ → ℕ → ℕ
row_drawn state rows = 1 + drawn state rows

-- ---- The first commands

-- the stylesheet: of the root an element `out` with what the rows give, of each row an element `o` with its value
abbrev pub stylesheet_lines : List (List ℕ)
stylesheet_lines =
    codes "(xsl:stylesheet"
    ∷ codes "Aversion 1.0"
    ∷ codes "Axmlns:xsl http://www.w3.org/1999/XSL/Transform"
    ∷ codes "(xsl:template"
    ∷ codes "Amatch /"
    ∷ codes "(out"
    ∷ codes "(xsl:apply-templates"
    ∷ codes "Aselect t/r"
    ∷ codes ")xsl:apply-templates"
    ∷ codes ")out"
    ∷ codes ")xsl:template"
    ∷ codes "(xsl:template"
    ∷ codes "Amatch r"
    ∷ codes "(o"
    ∷ codes "(xsl:value-of"
    ∷ codes "Aselect v"
    ∷ codes ")xsl:value-of"
    ∷ codes ")o"
    ∷ codes ")xsl:template"
    ∷ codes ")xsl:stylesheet"
    ∷ []

abbrev pub module_command : Command
module_command = record { line = codes "module main"; body = stylesheet_lines }

-- the lines of a row with this value
abbrev pub row_lines : List ℕ → List (List ℕ)
row_lines value = codes "(r" ∷ codes "(v" ∷ (0x2D ∷ value) ∷ codes ")v" ∷ codes ")r" ∷ []

-- the lines of so many rows, whose values are drawn one after another from this state on
abbrev pub rows_lines : ℕ → ℕ → List (List ℕ)
rows_lines zero state = []
rows_lines (suc count) state = row_lines (value_drawn (next_state state)) ++ rows_lines count (next_state state)

abbrev pub source_command : ℕ → ℕ → Command
source_command count state = record { line = codes "source"; body = codes "(t" ∷ rows_lines count state ++ codes ")t" ∷ [] }

-- the state that so many draws leave
abbrev pub state_after : ℕ → ℕ → ℕ
state_after zero state = state
state_after (suc count) state = state_after count (next_state state)

-- ---- The changes

-- where the changes stand: the number of the next one, from 1, the state of the draws, and how many rows there are
pub record Place : Type 0 where
  pub number : ℕ
  pub state : ℕ
  pub rows : ℕ

-- a word, the path of a row, and what stands behind it
abbrev pub at_row : List ℕ → ℕ → List ℕ → List ℕ
at_row word row more = word ++ codes " source /1/" ++ decimal row ++ more

-- The next change. First its row is drawn and then, but for a deletion, its value: the text in a row is another one, a row
-- comes before a row, or a row goes, in turns
abbrev pub text_command : ℕ → List ℕ → Command
text_command row value = record { line = at_row (codes "text") row (codes "/1/1 " ++ value); body = [] }

abbrev pub insert_command : ℕ → List ℕ → Command
insert_command row value = record { line = at_row (codes "insert") row []; body = row_lines value }

abbrev pub delete_command : ℕ → Command
delete_command row = record { line = at_row (codes "delete") row []; body = [] }

abbrev pub change_command : Place → Command
change_command place =
    let first = next_state place.state in
    let row = row_drawn first place.rows in
    let value = value_drawn (next_state first) in
    if place.number % 3 == 1 then text_command row value else (if place.number % 3 == 2 then insert_command row value else delete_command row)

-- where the changes stand behind it
abbrev pub rows_behind : Place → ℕ
rows_behind place = if place.number % 3 == 1 then place.rows else (if place.number % 3 == 2 then place.rows + 1 else place.rows - 1)

abbrev pub state_behind : Place → ℕ
state_behind place = if place.number % 3 == 0 then next_state place.state else next_state (next_state place.state)

abbrev pub behind : Place → Place
behind place = record { number = place.number + 1; state = state_behind place; rows = rows_behind place }

-- so many changes
abbrev pub changes : ℕ → Place → List Command
changes zero place = []
changes (suc count) place = change_command place ∷ changes count (behind place)

abbrev pub show_command : Command
show_command = record { line = codes "show"; body = [] }

-- ---- The whole

-- where the changes of a session of this size begin
abbrev pub first_place : ℕ → Place
first_place n = record { number = 1; state = state_after (20 * n) n; rows = 20 * n }

-- the commands of a session of this size: a stylesheet, a source of 20 n rows, 10 n changes, and `show`
abbrev pub generated : ℕ → List Command
generated n = module_command ∷ source_command (20 * n) n ∷ (changes (10 * n) (first_place n) ++ show_command ∷ [])

-- ---- The summary

abbrev pub begins_with : List ℕ → List ℕ → Bool
begins_with word text = bytes_eq word (take (length word) text)

-- how many replies begin with this word
abbrev pub replies_with : List ℕ → List Reply → ℕ
replies_with word replies = count_by (λ reply. begins_with word (reply_bytes reply)) replies

-- the size, how many commands were accepted as changes, how many refused, and how many bytes the replies have
abbrev pub summary : ℕ → List Reply → List ℕ
summary n replies =
    with_newline (codes "demo " ++ decimal n ++ codes " ok " ++ decimal (replies_with (codes "ok ") replies)
    ++ codes " no " ++ decimal (replies_with (codes "no ") replies) ++ codes " bytes " ++ decimal (length (flat_map reply_bytes replies)))
