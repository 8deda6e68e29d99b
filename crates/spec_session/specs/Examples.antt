-- Worked examples of the definitions. Each line is a fact whose two sides the check computes.
use Rattle.std.specs.Prelude.{ℕ, ◌≡◌, refl, false, List, [], ◌∷◌, ◌++◌, Option, None, Some, Result, Ok, Err, bytes_eq, codes, if◌then◌else◌}
use Rattle.std.specs.Str.{chars, is_utf8}
use Rattle.std.specs.Fmt.{digits}
use lib.Utf8.{encode}
use Rattle.spec_document.specs.Character.{is_char, is_name_start, is_name_part}
use Rattle.spec_document.specs.Forest.{Plain, Empty, Node, Element, Text, Comment, lines_of}
use Rattle.spec_session.specs.declared.kinds.Ending.TheVariants.{Finished, Quit, Unfinished}
use Rattle.spec_session.specs.Command.{session_of, status_of}
use Rattle.spec_session.specs.Request.{Request, SetSource, SetModule, DropModule, Insert, Delete, SetText, SetAttribute, RemoveAttribute, Rename, Move}
use Rattle.spec_session.specs.Request.{SetParameter, Show, Write, Messages, Dump, Statistics, Begin, Commit, Abandon, SourceName, ModuleName}
use Rattle.spec_session.specs.Request.{words_of, asked_by, request_of, path_of}
use Rattle.spec_run.specs.Documents.{Documents, no_documents, with_source, with_module, without_module, with_parameter}
use Rattle.spec_structure.specs.Modules.{reads, no_link, no_fault}
use Rattle.spec_compile.specs.Sheet.{refused, faulty}
use Rattle.spec_run.specs.Outcome.{Failed, IsOutcome, no_main, no_source}
use Rattle.spec_expression.specs.declared.code.Code.TheVariants.{Static, Dynamic}
use Rattle.spec_expression.specs.declared.code.StaticCode.TheVariants.{NoStylesheet}
use Rattle.spec_expression.specs.declared.code.DynCode.TheVariants.{TooDeep}
use Rattle.spec_session.specs.Machine.{State, initial, answer_to, Refuses, Changes, Pends, Drops, ShowsResult, ShowsDocument, TellsCounts, messages_reply}
use Rattle.spec_session.specs.Reply.{OkRefused, OkPending, OkDropped, Refused, Shown, Written, Counted, No, reply_bytes}

-- a body goes up to a line `.`; empty lines between commands are skipped; `quit` ends the session
pub commands_with_bodies : session_of (codes "source x" ∷ codes "(a" ∷ [] ∷ codes "." ∷ [] ∷ codes "show" ∷ codes "quit" ∷ codes "show" ∷ [])
    ≡ record { commands = record { line = codes "source x"; body = codes "(a" ∷ [] ∷ [] } ∷ record { line = codes "show"; body = [] } ∷ []; ending = Quit }
commands_with_bodies = refl

pub inside_a_body : session_of (codes "module main" ∷ codes "(a" ∷ []) ≡ record { commands = []; ending = Unfinished }
inside_a_body = refl

-- `quit` with anything after it is another command
pub quit_alone : session_of (codes "quit " ∷ []) ≡ record { commands = record { line = codes "quit "; body = [] } ∷ []; ending = Finished }
quit_alone = refl

pub status_inside_a_body : status_of false Unfinished ≡ 4
status_inside_a_body = refl

-- ---- What lines ask

abbrev asks : List ℕ → Result Request ℕ
asks line = request_of (record { line = line; body = [] })

pub source_asks : request_of (record { line = codes "source"; body = codes "(a" ∷ codes ")a" ∷ [] }) ≡ Ok (SetSource (codes "(a" ∷ codes ")a" ∷ []))
unfolding chars is_utf8 encode
source_asks = refl

pub module_asks : asks (codes "module lib.xsl") ≡ Ok (SetModule (codes "lib.xsl") [])
unfolding chars is_utf8 encode
module_asks = refl

pub drop_asks : asks (codes "drop lib.xsl") ≡ Ok (DropModule (codes "lib.xsl"))
unfolding chars is_utf8 encode
drop_asks = refl

pub dump_asks : asks (codes "dump source") ≡ Ok (Dump SourceName)
unfolding chars is_utf8 encode
dump_asks = refl

pub no_text : request_of (record { line = codes "foo"; body = (0xFF ∷ []) ∷ [] }) ≡ Err 2
unfolding chars is_utf8 encode
no_text = refl

pub write_asks : asks (codes "write") ≡ Ok Write
unfolding chars is_utf8 encode
write_asks = refl

pub messages_asked : asks (codes "messages") ≡ Ok Messages
unfolding chars is_utf8 encode
messages_asked = refl

pub insert_asks : request_of (record { line = codes "insert source /1/2"; body = codes "(b" ∷ codes ")b" ∷ [] })
    ≡ Ok (Insert SourceName (1 ∷ 2 ∷ []) (codes "(b" ∷ codes ")b" ∷ []))
unfolding chars is_utf8 encode
insert_asks = refl

pub delete_asks : asks (codes "delete lib /3/12") ≡ Ok (Delete (ModuleName (codes "lib")) (3 ∷ 12 ∷ []))
unfolding chars is_utf8 encode
delete_asks = refl

-- a value may be one character that is written as an escape
pub text_asks : asks (codes "text source /1/1 \\t") ≡ Ok (SetText SourceName (1 ∷ 1 ∷ []) (codes "\t"))
unfolding chars is_utf8 encode
text_asks = refl

pub attribute_asks : asks (codes "attr source /1 x  v ") ≡ Ok (SetAttribute SourceName (1 ∷ []) (codes "x") (codes " v "))
unfolding chars is_utf8 encode
attribute_asks = refl

pub unattribute_asks : asks (codes "unattr main /1/2 p:x") ≡ Ok (RemoveAttribute (ModuleName (codes "main")) (1 ∷ 2 ∷ []) (codes "p:x"))
unfolding chars is_utf8 encode
unattribute_asks = refl

pub rename_asks : asks (codes "rename source /2 p:b") ≡ Ok (Rename SourceName (2 ∷ []) (codes "p:b"))
unfolding chars is_utf8 encode
rename_asks = refl

pub move_asks : asks (codes "move source /1/2 /2") ≡ Ok (Move SourceName (1 ∷ 2 ∷ []) (2 ∷ []))
unfolding chars is_utf8 encode
move_asks = refl

-- a path ends the line of `insert`, of `delete` and of `move`, a name that of `unattr` and of `rename`
pub insert_with_a_value : asks (codes "insert source /1 x") ≡ Err 4
unfolding chars is_utf8 encode
insert_with_a_value = refl

pub delete_without_a_path : asks (codes "delete source") ≡ Err 4
unfolding chars is_utf8 encode
delete_without_a_path = refl

pub move_with_one_path : asks (codes "move source /1") ≡ Err 4
unfolding chars is_utf8 encode
move_with_one_path = refl

pub move_with_three_paths : asks (codes "move source /1 /2 /3") ≡ Err 4
unfolding chars is_utf8 encode
move_with_three_paths = refl

pub move_to_no_path : asks (codes "move source /1 2") ≡ Err 4
unfolding chars is_utf8 encode
move_to_no_path = refl

-- only the word in lower case is the command
pub no_other_case : asks (codes "Move source /1 /2") ≡ Err 3
unfolding chars is_utf8 encode
no_other_case = refl

pub rename_with_two_names : asks (codes "rename source /1 b c") ≡ Err 4
unfolding chars is_utf8 encode
rename_with_two_names = refl

pub parameter_without_a_name : asks (codes "param") ≡ Err 4
unfolding chars is_utf8 encode
parameter_without_a_name = refl

pub unknown_word : asks (codes " show") ≡ Err 3
unfolding chars is_utf8 encode
unknown_word = refl

pub counts_asked : asks (codes "stats") ≡ Ok Statistics
unfolding chars is_utf8 encode
counts_asked = refl

pub counts_with_a_word : asks (codes "stats all") ≡ Err 4
unfolding chars is_utf8 encode
counts_with_a_word = refl

pub longer_word : asks (codes "statistics") ≡ Err 3
unfolding chars is_utf8 encode
longer_word = refl

pub begin_asks : asks (codes "begin") ≡ Ok Begin
unfolding chars is_utf8 encode
begin_asks = refl

pub commit_asks : asks (codes "commit") ≡ Ok Commit
unfolding chars is_utf8 encode
commit_asks = refl

pub abandon_asks : asks (codes "abandon") ≡ Ok Abandon
unfolding chars is_utf8 encode
abandon_asks = refl

-- a batch has no name
pub begin_with_a_word : asks (codes "begin one") ≡ Err 4
unfolding chars is_utf8 encode
begin_with_a_word = refl

pub commit_with_a_space : asks (codes "commit ") ≡ Err 4
unfolding chars is_utf8 encode
commit_with_a_space = refl

pub word_too_many : asks (codes "show ") ≡ Err 4
unfolding chars is_utf8 encode
word_too_many = refl

pub two_spaces : asks (codes "dump  source") ≡ Err 4
unfolding chars is_utf8 encode
two_spaces = refl

pub module_source : asks (codes "module source") ≡ Err 4
unfolding chars is_utf8 encode
module_source = refl

-- the source is no module, and cannot be dropped
pub drop_source : asks (codes "drop source") ≡ Err 4
unfolding chars is_utf8 encode
drop_source = refl

pub quit_with_a_word : asks (codes "quit now") ≡ Err 4
unfolding chars is_utf8 encode
quit_with_a_word = refl

-- what the words ask
abbrev asked : List ℕ → Option Request
asked line = asked_by (words_of line) []

pub text_asked : asked (codes "text source /2/10 a\\tb c") ≡ Some (SetText SourceName (2 ∷ 10 ∷ []) (codes "a\tb c"))
text_asked = refl

pub value_missing : asked (codes "text main /1") ≡ Some (SetText (ModuleName (codes "main")) (1 ∷ []) [])
value_missing = refl

pub attribute_asked : asked (codes "attr source /1 xmlns:p u v") ≡ Some (SetAttribute SourceName (1 ∷ []) (codes "xmlns:p") (codes "u v"))
attribute_asked = refl

pub name_is_no_empty_word : asked (codes "attr source /1  v") ≡ None
name_is_no_empty_word = refl

pub root_path : asked (codes "rename source / x") ≡ Some (Rename SourceName [] (codes "x"))
root_path = refl

pub parameter_asked : asked (codes "param p e\\nf") ≡ Some (SetParameter (codes "p") (codes "e\nf"))
parameter_asked = refl

pub bad_paths : path_of (codes "/01") ∷ path_of (codes "1") ∷ path_of (codes "/1/") ∷ path_of (codes "//1") ∷ path_of (codes "/1234567890123456789") ∷ path_of [] ∷ []
    ≡ None ∷ None ∷ None ∷ None ∷ None ∷ None ∷ []
bad_paths = refl

-- ---- What the transformation gives

abbrev leaf : List ℕ → List ℕ → Plain
leaf name text = Node tt (Element name []) (Node tt (Text text) Empty Empty) Empty

abbrev holding : Option Plain → Option Plain → Documents
holding main source =
    record { source = source; modules = λ name. if bytes_eq name (codes "main") then main else None; parameters = λ name. None }

pub without_main : IsOutcome no_documents (Failed no_main [])
without_main = refl

pub without_source : IsOutcome (holding (Some (leaf (codes "a") [])) None) (Failed no_source [])
without_source = refl

-- a module that is no stylesheet: there is nothing behind a comment
pub other_main : IsOutcome (holding (Some (Node tt (Comment []) Empty Empty)) (Some (leaf (codes "a") (codes "b"))))
    (Failed (record { code = Static NoStylesheet; place = record { module_name = Some (codes "main"); path = 2 ∷ [] } }) [])
other_main = (
  _,
  refused (reads _ refl refl no_link)
      (faulty (record { tree = _; is = refl; says = Ok []; reading = refl; link = None; links = no_fault; whole = refl })),
  refl,
)

-- ---- What is dropped

-- two modules are held
abbrev of_two_modules : Documents
of_two_modules = with_module (codes "b") (leaf (codes "t") []) (with_module (codes "a") (leaf (codes "s") []) no_documents)

pub drop_of_no_module : answer_to initial (DropModule (codes "lib")) ≡ Refuses 5
drop_of_no_module = refl

-- no node is made
pub module_dropped : answer_to (record { documents = of_two_modules; made = 6; pending = None }) (DropModule (codes "a"))
    ≡ Changes (record { documents = without_module (codes "a") of_two_modules; made = 6; pending = None })
module_dropped = refl

abbrev after_drop : State
after_drop = record { documents = without_module (codes "a") of_two_modules; made = 6; pending = None }

-- the other stays
pub dropped_alone : answer_to after_drop (Dump (ModuleName (codes "a"))) ∷ answer_to after_drop (Dump (ModuleName (codes "b"))) ∷ []
    ≡ Refuses 5 ∷ ShowsDocument (leaf (codes "t") []) ∷ []
dropped_alone = refl

-- ---- What a parameter comes to

-- it is held, and no node is made
pub parameter_given : answer_to initial (SetParameter (codes "p") (codes "a b"))
    ≡ Changes (record { documents = with_parameter (codes "p") (codes "a b") no_documents; made = 0; pending = None })
unfolding is_char is_name_start
parameter_given = refl

-- the value's characters come before the name
pub parameter_refused : answer_to initial (SetParameter (codes "x:p") (1 ∷ [])) ∷ answer_to initial (SetParameter (codes "x:p") []) ∷ []
    ≡ Refuses 8 ∷ Refuses 10 ∷ []
unfolding is_char is_name_start is_name_part
parameter_refused = refl

-- ---- What an edit comes to

-- the nodes of a source, of which and of others so many were made
abbrev with_nodes : Plain → ℕ → State
with_nodes nodes made = record { documents = with_source nodes no_documents; made = made; pending = None }

-- <a>, of these children
abbrev in_a : Plain → Plain
in_a children = Node tt (Element (codes "a") []) children Empty

abbrev text_then : List ℕ → Plain → Plain
text_then text siblings = Node tt (Text text) Empty siblings

-- <a>x<b/>y</a>
abbrev edited : State
edited = with_nodes (in_a (text_then (codes "x") (Node tt (Element (codes "b") []) Empty (text_then (codes "y") Empty)))) 5

-- the texts beside what goes are joined, and nothing is made
pub delete_joins : answer_to edited (Delete SourceName (1 ∷ 2 ∷ [])) ≡ Changes (with_nodes (in_a (text_then (codes "xy") Empty)) 5)
delete_joins = refl

pub document_element_stays : answer_to edited (Delete SourceName (1 ∷ [])) ≡ Refuses 9
document_element_stays = refl

pub text_made_empty : answer_to edited (SetText SourceName (1 ∷ 3 ∷ []) [])
    ≡ Changes (with_nodes (in_a (text_then (codes "x") (Node tt (Element (codes "b") []) Empty Empty))) 5)
text_made_empty = refl

-- what is inserted is joined with the text behind it, and counts as one node made
pub insert_joins : answer_to edited (Insert SourceName (1 ∷ 3 ∷ []) (codes "-or " ∷ []))
    ≡ Changes (with_nodes (in_a (text_then (codes "x") (Node tt (Element (codes "b") []) Empty (text_then (codes "or y") Empty)))) 6)
unfolding chars is_utf8 encode is_char
insert_joins = refl

-- the position behind the last child is one, the next is none
pub insert_at_the_end : answer_to edited (Insert SourceName (1 ∷ 4 ∷ []) []) ≡ Changes edited
insert_at_the_end = refl

pub insert_past_the_end : answer_to edited (Insert SourceName (1 ∷ 5 ∷ []) []) ≡ Refuses 6
insert_past_the_end = refl

-- a text has no place below it; the path on from there leaves the tree
pub insert_below_a_text : answer_to edited (Insert SourceName (1 ∷ 1 ∷ 1 ∷ []) []) ∷ answer_to edited (Insert SourceName (1 ∷ 1 ∷ 1 ∷ 1 ∷ []) []) ∷ []
    ≡ Refuses 7 ∷ Refuses 6 ∷ []
insert_below_a_text = refl

pub insert_beside_the_document_element : answer_to edited (Insert SourceName (2 ∷ []) (codes "(c" ∷ codes ")c" ∷ [])) ≡ Refuses 9
unfolding chars is_utf8 encode is_char is_name_start is_name_part
insert_beside_the_document_element = refl

pub other_kinds : answer_to edited (SetText SourceName (1 ∷ []) (codes "k")) ∷ answer_to edited (SetAttribute SourceName [] (codes "x") (codes "v"))
    ∷ answer_to edited (RemoveAttribute SourceName (1 ∷ 1 ∷ []) (codes "x")) ∷ answer_to edited (Rename SourceName (1 ∷ 1 ∷ []) (codes "x")) ∷ []
    ≡ Refuses 7 ∷ Refuses 7 ∷ Refuses 7 ∷ Refuses 7 ∷ []
other_kinds = refl

-- an element with another name is made anew
pub rename_makes_anew : answer_to edited (Rename SourceName (1 ∷ 2 ∷ []) (codes "c"))
    ≡ Changes (with_nodes (in_a (text_then (codes "x") (Node tt (Element (codes "c") []) Empty (text_then (codes "y") Empty)))) 6)
unfolding is_name_start is_name_part
rename_makes_anew = refl

pub attribute_added : answer_to edited (SetAttribute SourceName (1 ∷ 2 ∷ []) (codes "k") (codes "v"))
    ≡ Changes (with_nodes (in_a (text_then (codes "x") (Node tt (Element (codes "b") (record { name = codes "k"; value = codes "v" } ∷ [])) Empty
    (text_then (codes "y") Empty)))) 5)
unfolding is_char is_name_start is_name_part
attribute_added = refl

pub wrong_names : answer_to edited (Rename SourceName (1 ∷ []) (codes ":b")) ∷ answer_to edited (SetAttribute SourceName (1 ∷ []) (codes "xmlns:p") []) ∷ []
    ≡ Refuses 10 ∷ Refuses 10 ∷ []
unfolding is_char is_name_start is_name_part
wrong_names = refl

pub no_such_attribute : answer_to edited (RemoveAttribute SourceName (1 ∷ []) (codes "x")) ≡ Refuses 6
no_such_attribute = refl

-- whatever else is wrong, a document that is not held comes first, and the path before the characters
pub least_refusals : answer_to edited (SetText (ModuleName (codes "main")) [] (1 ∷ [])) ∷ answer_to edited (SetText SourceName (9 ∷ []) (1 ∷ [])) ∷ []
    ≡ Refuses 5 ∷ Refuses 6 ∷ []
least_refusals = refl

-- ---- What a move comes to

abbrev empty_before : List ℕ → Plain → Plain
empty_before name siblings = Node tt (Element name []) Empty siblings

-- <a><b/><c/></a>
abbrev moved : State
moved = with_nodes (in_a (empty_before (codes "b") (empty_before (codes "c") Empty))) 4

-- before the other child: the node stays the same, so nothing is made
pub move_to_the_front : answer_to moved (Move SourceName (1 ∷ 2 ∷ []) (1 ∷ 1 ∷ []))
    ≡ Changes (with_nodes (in_a (empty_before (codes "c") (empty_before (codes "b") Empty))) 4)
move_to_the_front = refl

-- before the sibling behind it, where it stands already, and before itself
pub move_to_its_place : answer_to moved (Move SourceName (1 ∷ 1 ∷ []) (1 ∷ 2 ∷ [])) ∷ answer_to moved (Move SourceName (1 ∷ 1 ∷ []) (1 ∷ 1 ∷ [])) ∷ []
    ≡ Changes moved ∷ Changes moved ∷ []
move_to_its_place = refl

pub move_below_itself : answer_to moved (Move SourceName (1 ∷ []) (1 ∷ 1 ∷ [])) ≡ Refuses 15
move_below_itself = refl

pub move_of_no_node : answer_to moved (Move SourceName (1 ∷ 9 ∷ []) (1 ∷ 1 ∷ [])) ≡ Refuses 6
move_of_no_node = refl

pub move_of_the_root : answer_to moved (Move SourceName [] (1 ∷ 1 ∷ [])) ≡ Refuses 7
move_of_the_root = refl

-- ---- What a batch comes to

-- the text x of the source is another, and so many nodes were made
abbrev with_first : List ℕ → ℕ → State
with_first text made = with_nodes (in_a (text_then text (Node tt (Element (codes "b") []) Empty (text_then (codes "y") Empty)))) made

-- the source is present as it was; it is pending with another first text
abbrev in_batch : List ℕ → ℕ → State
in_batch text made = record { documents = edited.documents; made = made; pending = Some (with_first text made).documents }

-- a batch begins with what is present
pub batch_begun : answer_to edited Begin ≡ Pends (in_batch (codes "x") 5)
batch_begun = refl

-- what a batch changes is pending: the present is as before
pub changed_in_a_batch : answer_to (in_batch (codes "x") 5) (SetText SourceName (1 ∷ 1 ∷ []) (codes "z")) ≡ Pends (in_batch (codes "z") 5)
unfolding is_char
changed_in_a_batch = refl

-- a path leads through the pending source, and what is refused leaves the batch open
pub refused_in_a_batch : answer_to (in_batch (codes "z") 5) (Delete SourceName (1 ∷ 4 ∷ [])) ∷ answer_to (in_batch (codes "z") 5) (DropModule (codes "lib")) ∷ []
    ≡ Refuses 6 ∷ Refuses 5 ∷ []
refused_in_a_batch = refl

-- the pending source is dumped, the present result shown
pub asked_in_a_batch : answer_to (in_batch (codes "z") 5) (Dump SourceName) ∷ answer_to (in_batch (codes "z") 5) Show ∷ []
    ≡ ShowsDocument (in_a (text_then (codes "z") (Node tt (Element (codes "b") []) Empty (text_then (codes "y") Empty)))) ∷ ShowsResult ∷ []
asked_in_a_batch = refl

pub parameter_in_a_batch : answer_to (record { documents = no_documents; made = 0; pending = Some no_documents }) (SetParameter (codes "p") (codes "v"))
    ≡ Pends (record { documents = no_documents; made = 0; pending = Some (with_parameter (codes "p") (codes "v") no_documents) })
unfolding is_char is_name_start
parameter_in_a_batch = refl

-- what was pending is present, and no batch is open
pub batch_committed : answer_to (in_batch (codes "z") 5) Commit ≡ Changes (with_first (codes "z") 5)
batch_committed = refl

-- the present stays as it was; the nodes that were made in between still count
pub batch_abandoned : answer_to (in_batch (codes "z") 6) Abandon ≡ Drops (with_first (codes "x") 6)
batch_abandoned = refl

pub begun_twice : answer_to (in_batch (codes "z") 5) Begin ≡ Refuses 16
begun_twice = refl

pub no_batch_open : answer_to edited Commit ∷ answer_to edited Abandon ∷ [] ≡ Refuses 17 ∷ Refuses 17 ∷ []
no_batch_open = refl

-- ---- What the counts come to

pub counts_told : answer_to initial Statistics ≡ TellsCounts
counts_told = refl

-- ---- Replies

pub shown : reply_bytes (Shown (lines_of (leaf (codes "out") (codes "h\ti")))) ≡ codes "(out\n-h\\ti\n)out\n.\n"
unfolding encode
shown = refl

-- the messages of a transformation that is refused
pub messages_shown : reply_bytes (messages_reply (Failed no_main (codes "one\ntwo" ∷ [] ∷ []))) ≡ codes "-one\\ntwo\n-\n.\n"
unfolding encode
messages_shown = refl

-- the number is that of the bytes, and the text is as it is
pub written : reply_bytes (Written (codes "a\nb" ++ 0xE9 ∷ [])) ≡ codes "text 5\na\nb" ++ 0xC3 ∷ 0xA9 ∷ 0xA ∷ []
unfolding encode digits
written = refl

pub counted : reply_bytes (Counted 12 304 95) ≡ codes "ran 12 asked 304 did 95\n"
unfolding encode digits
counted = refl

pub counted_at_start : reply_bytes (Counted 0 0 0) ≡ codes "ran 0 asked 0 did 0\n"
unfolding encode digits
counted_at_start = refl

pub pending_change : reply_bytes OkPending ≡ codes "ok pending\n"
unfolding encode
pending_change = refl

pub dropped_batch : reply_bytes OkDropped ≡ codes "ok dropped\n"
unfolding encode
dropped_batch = refl

pub refused_change : reply_bytes (OkRefused no_main) ≡ codes "ok refused S01 -\n"
unfolding encode digits
refused_change = refl

pub refused_result : reply_bytes (Refused (record { code = Dynamic TooDeep; place = record { module_name = Some (codes "main"); path = 1 ∷ 20 ∷ [] } })) ≡ codes "refused D11 main/1/20\n"
unfolding encode digits
refused_result = refl

pub refused_command : reply_bytes (No 14) ≡ codes "no 14\n"
unfolding encode digits
refused_command = refl
