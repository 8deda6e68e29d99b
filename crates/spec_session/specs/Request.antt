-- What a command's line asks. Its words are parted by one space each; a value is the rest of the line, with the escapes of PYX.
use Rattle.std.specs.Prelude.{ℕ, ◌+◌, ◌-◌, ◌*◌, Bool, ◌&&◌, ◌==◌, nat_le, List, [], ◌∷◌, length, map, Option, None, Some, Result, Ok, Err, if◌then◌else◌, bytes_eq, codes}
use Rattle.std.specs.Option.{option_map, option_and_then}
use Rattle.std.specs.List.{list_all, list_any, find, before_first, after_first}
use Rattle.std.specs.Str.{is_utf8, chars}
use Rattle.spec_document.specs.Character.{is_between}
use Rattle.spec_document.specs.Declaration.{is_there}
use Rattle.spec_document.specs.Forest.{in_front}
use Rattle.spec_document.specs.Pyx.{is_blank, unescaped}
use Rattle.spec_session.specs.Command.{Command}

-- a document by its name: the source, or a module
pub data DocumentName : Type 0 where
  SourceName : DocumentName
  ModuleName : (name : List ℕ) → DocumentName

-- what a command asks. A path is a list of positions, each from 1; a body is its lines
pub data Request : Type 0 where
  SetSource : (body : List (List ℕ)) → Request
  SetModule : (name : List ℕ) → (body : List (List ℕ)) → Request
  DropModule : (name : List ℕ) → Request
  Insert : (document : DocumentName) → (path : List ℕ) → (body : List (List ℕ)) → Request
  Delete : (document : DocumentName) → (path : List ℕ) → Request
  SetText : (document : DocumentName) → (path : List ℕ) → (value : List ℕ) → Request
  SetAttribute : (document : DocumentName) → (path : List ℕ) → (name : List ℕ) → (value : List ℕ) → Request
  RemoveAttribute : (document : DocumentName) → (path : List ℕ) → (name : List ℕ) → Request
  Rename : (document : DocumentName) → (path : List ℕ) → (name : List ℕ) → Request
  Move : (document : DocumentName) → (path other : List ℕ) → Request
  SetParameter : (name : List ℕ) → (value : List ℕ) → Request
  Show : Request
  Write : Request
  Messages : Request
  Dump : (document : DocumentName) → Request
  Statistics : Request
  Begin : Request
  Commit : Request
  Abandon : Request

-- ---- Words

-- a text cut at its first space: the word before it, and what stands behind it, where there is a space
pub record Words : Type 0 where
  pub first : List ℕ
  pub rest : Option (List ℕ)

abbrev pub words_of : List ℕ → Words
words_of text = record { first = before_first is_blank text; rest = if list_any is_blank text then Some (after_first is_blank text) else None }

-- the next word, and what stands behind it. A word is not empty
abbrev pub filled : Words → Option Words
filled words = if is_there words.first then Some words else None

abbrev pub next_word : Option (List ℕ) → Option Words
next_word rest = option_and_then (λ text. filled (words_of text)) rest

-- nothing more stands there
abbrev pub at_end : {A : Type 0} → Option A → Option (List ℕ) → Option A
at_end request None = request
at_end request (Some more) = None

-- the only word, and nothing behind it
abbrev pub only_word : Option (List ℕ) → Option (List ℕ)
only_word rest = option_and_then (λ words. at_end (Some words.first) words.rest) (next_word rest)

-- the value: all that stands there. Where the line ends before it, it is empty
abbrev pub value_of : Option (List ℕ) → List ℕ
value_of None = []
value_of (Some text) = unescaped text

-- ---- Names and paths

abbrev pub document_named : List ℕ → DocumentName
document_named word = if bytes_eq word (codes "source") then SourceName else ModuleName word

-- the name of a module is any word but `source`
abbrev pub module_named : List ℕ → Option (List ℕ)
module_named word = if bytes_eq word (codes "source") then None else Some word

abbrev pub is_slash : ℕ → Bool
is_slash c = c == 0x2F

-- one more character in front of the first of these parts
abbrev pub onto_first : ℕ → List (List ℕ) → List (List ℕ)
onto_first c [] = (c ∷ []) ∷ []
onto_first c (part ∷ parts) = (c ∷ part) ∷ parts

-- the parts of a text between its slashes
abbrev pub parts_of : List ℕ → List (List ℕ)
parts_of [] = [] ∷ []
parts_of (c ∷ cs) = if is_slash c then [] ∷ parts_of cs else onto_first c (parts_of cs)

abbrev pub is_digit : ℕ → Bool
is_digit c = is_between 0x30 0x39 c

-- the number of these digits, behind those that make this number
abbrev pub number_from : ℕ → List ℕ → ℕ
number_from before [] = before
number_from before (c ∷ cs) = number_from (10 * before + (c - 0x30)) cs

-- a position: 1 to 18 digits, not beginning with 0
abbrev pub position_of : List ℕ → Option ℕ
position_of [] = None
position_of (c ∷ cs) = if is_between 0x31 0x39 c && list_all is_digit cs && nat_le (length cs) 17 then Some (number_from 0 (c ∷ cs)) else None

-- all of them, where each is there
abbrev pub all_there : {A : Type 0} → List (Option A) → Option (List A)
all_there [] = Some []
all_there (x ∷ xs) = in_front x (all_there xs)

abbrev pub positions_of : List ℕ → Option (List ℕ)
positions_of [] = Some []
positions_of (c ∷ cs) = all_there (map position_of (parts_of (c ∷ cs)))

-- a path: `/` for the root, or positions as `/2/1`
abbrev pub path_of : List ℕ → Option (List ℕ)
path_of [] = None
path_of (c ∷ cs) = if is_slash c then positions_of cs else None

-- a document and a path, and what stands behind them
pub record Target : Type 0 where
  pub document : DocumentName
  pub path : List ℕ
  pub rest : Option (List ℕ)

abbrev pub target_of : Option (List ℕ) → Option Target
target_of rest =
    option_and_then (λ document. option_and_then (λ path. option_map
    (λ positions. record { document = document_named document.first; path = positions; rest = path.rest })
    (path_of path.first)) (next_word document.rest)) (next_word rest)

-- ---- The commands, a row each: its word, and what it asks by what stands behind the word and by its body. None where the
-- arguments do not have the command's form

abbrev pub Form : Type 0
Form = Option (List ℕ) → List (List ℕ) → Option Request

abbrev pub source_form : Form
source_form rest body = at_end (Some (SetSource body)) rest

abbrev pub module_form : Form
module_form rest body = option_map (λ name. SetModule name body) (option_and_then module_named (only_word rest))

abbrev pub drop_form : Form
drop_form rest body = option_map DropModule (option_and_then module_named (only_word rest))

abbrev pub insert_form : Form
insert_form rest body = option_and_then (λ target. at_end (Some (Insert target.document target.path body)) target.rest) (target_of rest)

abbrev pub delete_form : Form
delete_form rest body = option_and_then (λ target. at_end (Some (Delete target.document target.path)) target.rest) (target_of rest)

abbrev pub text_form : Form
text_form rest body = option_map (λ target. SetText target.document target.path (value_of target.rest)) (target_of rest)

abbrev pub attribute_form : Form
attribute_form rest body =
    option_and_then (λ target. option_map (λ name. SetAttribute target.document target.path name.first (value_of name.rest)) (next_word target.rest)) (target_of rest)

abbrev pub unattribute_form : Form
unattribute_form rest body = option_and_then (λ target. option_map (RemoveAttribute target.document target.path) (only_word target.rest)) (target_of rest)

abbrev pub rename_form : Form
rename_form rest body = option_and_then (λ target. option_map (Rename target.document target.path) (only_word target.rest)) (target_of rest)

-- a second path stands alone behind the first
abbrev pub move_form : Form
move_form rest body =
    option_and_then (λ target. option_map (Move target.document target.path) (option_and_then path_of (only_word target.rest))) (target_of rest)

abbrev pub parameter_form : Form
parameter_form rest body = option_map (λ name. SetParameter name.first (value_of name.rest)) (next_word rest)

abbrev pub dump_form : Form
dump_form rest body = option_map (λ word. Dump (document_named word)) (only_word rest)

-- a command of one word
abbrev pub word_form : Request → Form
word_form request rest body = at_end (Some request) rest

-- `quit` alone ends the session, and is no command; with anything behind it, it has the wrong form
abbrev pub quit_form : Form
quit_form rest body = None

abbrev pub commands : List (List ℕ × Form)
commands =
    (codes "source", source_form)
    ∷ (codes "module", module_form)
    ∷ (codes "show", word_form Show)
    ∷ (codes "dump", dump_form)
    ∷ (codes "quit", quit_form)
    ∷ (codes "drop", drop_form)
    ∷ (codes "insert", insert_form)
    ∷ (codes "delete", delete_form)
    ∷ (codes "text", text_form)
    ∷ (codes "attr", attribute_form)
    ∷ (codes "unattr", unattribute_form)
    ∷ (codes "rename", rename_form)
    ∷ (codes "move", move_form)
    ∷ (codes "param", parameter_form)
    ∷ (codes "write", word_form Write)
    ∷ (codes "messages", word_form Messages)
    ∷ (codes "stats", word_form Statistics)
    ∷ (codes "begin", word_form Begin)
    ∷ (codes "commit", word_form Commit)
    ∷ (codes "abandon", word_form Abandon)
    ∷ []

-- the words that are taken: any other is no command
abbrev pub taken_words : List (List ℕ)
taken_words =
    codes "source" ∷ codes "module" ∷ codes "show" ∷ codes "dump" ∷ codes "quit" ∷ codes "write" ∷ codes "param" ∷ codes "messages"
    ∷ codes "insert" ∷ codes "delete" ∷ codes "text" ∷ codes "attr" ∷ codes "unattr" ∷ codes "rename" ∷ codes "drop" ∷ codes "move"
    ∷ codes "stats" ∷ codes "begin" ∷ codes "commit" ∷ codes "abandon" ∷ []

abbrev pub is_taken : List ℕ → Bool
is_taken word = list_any (λ taken. bytes_eq word taken) taken_words

abbrev pub form_of : List ℕ → Option Form
form_of word = option_map (λ row. row.1) (find (λ row. bytes_eq word row.0) commands)

-- ---- What a command asks, or why it asks nothing: 2 where the line or a line of its body is not UTF-8, else 3 where the first
-- word is no command, else 4 where the arguments do not have its form

abbrev pub asked_by : Words → List (List ℕ) → Option Request
asked_by words body = option_and_then (λ form. form words.rest body) (form_of words.first)

abbrev pub or_number : {A : Type 0} → Option A → ℕ → Result A ℕ
or_number None number = Err number
or_number (Some x) number = Ok x

abbrev pub request_by : Words → List (List ℕ) → Result Request ℕ
request_by words body = if is_taken words.first then or_number (asked_by words body) 4 else Err 3

abbrev pub is_text : Command → Bool
is_text command = is_utf8 command.line && list_all is_utf8 command.body

abbrev pub request_of : Command → Result Request ℕ
request_of command = if is_text command then request_by (words_of (chars command.line)) command.body else Err 2
