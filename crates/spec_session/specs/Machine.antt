-- The session machine. Its state is plain documents and the parameters; a step relates state, command, reply and new state.
use Rattle.std.specs.Option.{unwrap_or}
use Rattle.std.specs.Prelude.{ℕ, ◌≡◌, ◌<◌, ◌+◌, ◌^◌, ◌⊎◌, List, [], ◌∷◌, map, Option, None, Some, Result, Ok, Err}
use Rattle.spec_document.specs.Scope.{root_scope}
use Rattle.spec_document.specs.declared.event.Event.TheVariants.{Data}
use Rattle.spec_document.specs.Pyx.{line_of}
use Rattle.spec_document.specs.Forest.{Plain, Document, plain, size, lines_of, texts_in}
use Rattle.spec_document.specs.Fault.{Fault}
use Rattle.spec_document.specs.Document.{document_of}
use Rattle.spec_document.specs.Name.{Expanded}
use Rattle.spec_edit.specs.Edit as edits
use Rattle.spec_expression.specs.declared.code.Code.{Code}
use Rattle.spec_expression.specs.declared.code.Code.TheVariants.{Static, Dynamic}
use Rattle.spec_edit.specs.Edit.{Edit, Edited, edited_document}
use Rattle.spec_move.specs.Move.{moved_document}
use Rattle.spec_stylesheet.specs.declared.method.Method.{Method}
use Rattle.spec_stylesheet.specs.declared.method.Method.TheVariants as method
use Rattle.spec_session.specs.Command.{Command}
use Rattle.spec_session.specs.Request.{DocumentName, SourceName, ModuleName, Request, SetSource, SetModule, DropModule, Insert, Delete, SetText, SetAttribute, RemoveAttribute, Rename, Move, SetParameter, Show, Write, Messages, Dump, Statistics, Begin, Commit, Abandon, request_of}
use Rattle.spec_run.specs.Documents.{Documents, no_documents, with_source, with_module, without_module, with_parameter, parameter_fault}
use Rattle.spec_run.specs.Outcome.{Outcome, Done, Failed, IsOutcome}
use Rattle.spec_session.specs.Reply.{Reply, OkDone, OkRefused, OkPending, OkDropped, Refused, Shown, Written, Counted, No}

-- What is held: the present documents with the parameters, of which the result is told; how many nodes the commands accepted so far have made, so
-- that the next one has this number; and while a batch is open, the pending documents and parameters, as its changes have left them
pub record State : Type 0 where
  pub documents : Documents
  pub made : ℕ
  pub pending : Option Documents

-- at the start nothing is held, and no batch is open
abbrev pub initial : State
initial = record { documents = no_documents; made = 0; pending = None }

-- what paths, changes and `dump` speak of: the pending documents while a batch is open, else the present ones
abbrev pub edited_documents : State → Documents
edited_documents state = unwrap_or state.pending state.documents

abbrev pub named_among : Documents → DocumentName → Option Plain
named_among documents SourceName = documents.source
named_among documents (ModuleName name) = documents.modules name

abbrev pub document_named : State → DocumentName → Option Plain
document_named state name = named_among (edited_documents state) name

-- ---- What a command comes to in a state

pub data Answer : Type 0 where
  -- it is refused by this number
  Refuses : (number : ℕ) → Answer
  -- it is accepted, and this is held afterwards, whose outcome is told
  Changes : (new : State) → Answer
  -- it is accepted in a batch, or opens one, and this is held afterwards: the present is as before
  Pends : (new : State) → Answer
  -- a batch is dropped, and this is held afterwards: the present is as before
  Drops : (new : State) → Answer
  -- the result is shown
  ShowsResult : Answer
  -- it is written by its output method
  WritesResult : Answer
  -- its messages are shown
  ShowsMessages : Answer
  -- a document is shown
  ShowsDocument : (tree : Plain) → Answer
  -- it is told what the last accepted change has cost
  TellsCounts : Answer

-- a change is accepted that makes these documents of those that it speaks of, after which so many nodes were made: they are present where no batch
-- is open, and else pending
abbrev pub accepted_by : Option Documents → State → Documents → (made : ℕ) → Answer
accepted_by None old documents made = Changes (record { documents = documents; made = made; pending = None })
accepted_by (Some pending) old documents made = Pends (record { documents = old.documents; made = made; pending = Some documents })

abbrev pub accepted : State → Documents → (made : ℕ) → Answer
accepted old documents made = accepted_by old.pending old documents made

-- the document of a body's lines has its place among the others, or its least fault is the refusal
abbrev pub kept_by : (Plain → Documents → Documents) → State → Result (Document ℕ) Fault → Answer
kept_by with_document old (Err fault) = Refuses fault.number
kept_by with_document old (Ok document) =
    accepted old (with_document (plain document.nodes) (edited_documents old)) (old.made + 1 + size document.nodes)

-- the module of this name is no longer held, or there is none
abbrev pub dropped_by : (name : List ℕ) → State → Option Plain → Answer
dropped_by name old None = Refuses 5
dropped_by name old (Some tree) = accepted old (without_module name (edited_documents old)) old.made

-- a parameter is given, or it may not be
abbrev pub given_by : (name value : List ℕ) → State → Option ℕ → Answer
given_by name value old (Some number) = Refuses number
given_by name value old None = accepted old (with_parameter name value (edited_documents old)) old.made

-- this document is held in place of the one of this name
abbrev pub with_document : DocumentName → Plain → Documents → Documents
with_document SourceName = with_source
with_document (ModuleName name) = with_module name

-- the document of this name is held as it is edited, or the edit's least refusal is answered
abbrev pub edited_by : State → DocumentName → Result (Edited (Unit {0})) Fault → Answer
edited_by old document (Err fault) = Refuses fault.number
edited_by old document (Ok edited) = accepted old (with_document document edited.nodes (edited_documents old)) (old.made + edited.made)

abbrev pub edited_in : State → DocumentName → Edit → Answer
edited_in old document edit = edited_by old document (edited_document old.made edit (document_named old document))

-- a batch is opened, which begins with what is present, unless one is open
abbrev pub begun : State → Option Documents → Answer
begun old None = Pends (record { documents = old.documents; made = old.made; pending = Some old.documents })
begun old (Some pending) = Refuses 16

-- what is pending becomes present in one change, or no batch is open
abbrev pub committed : State → Option Documents → Answer
committed old None = Refuses 17
committed old (Some pending) = Changes (record { documents = pending; made = old.made; pending = None })

-- what is pending is dropped, but for the numbers of nodes that it has made; or no batch is open
abbrev pub abandoned : State → Option Documents → Answer
abandoned old None = Refuses 17
abandoned old (Some pending) = Drops (record { documents = old.documents; made = old.made; pending = None })

abbrev pub shows : Option Plain → Answer
shows None = Refuses 5
shows (Some tree) = ShowsDocument tree

abbrev pub answer_to : State → Request → Answer
answer_to old (SetSource body) = kept_by with_source old (document_of root_scope old.made body)
answer_to old (SetModule name body) = kept_by (with_module name) old (document_of root_scope old.made body)
answer_to old (DropModule name) = dropped_by name old ((edited_documents old).modules name)
answer_to old (SetParameter name value) = given_by name value old (parameter_fault name value)
answer_to old Show = ShowsResult
answer_to old Write = WritesResult
answer_to old Messages = ShowsMessages
answer_to old (Dump document) = shows (document_named old document)
answer_to old (Insert document path body) = edited_in old document (edits.Insert path body)
answer_to old (Delete document path) = edited_in old document (edits.Delete path)
answer_to old (SetText document path value) = edited_in old document (edits.SetText path value)
answer_to old (SetAttribute document path name value) = edited_in old document (edits.SetAttribute path name value)
answer_to old (RemoveAttribute document path name) = edited_in old document (edits.RemoveAttribute path name)
answer_to old (Rename document path name) = edited_in old document (edits.Rename path name)
answer_to old (Move document path other) = edited_by old document (moved_document old.made path other (document_named old document))
answer_to old Statistics = TellsCounts
answer_to old Begin = begun old old.pending
answer_to old Commit = committed old old.pending
answer_to old Abandon = abandoned old old.pending

abbrev pub answer_by : State → Result Request ℕ → Answer
answer_by old (Err number) = Refuses number
answer_by old (Ok request) = answer_to old request

abbrev pub answer_of : State → Command → Answer
answer_of old command = answer_by old (request_of command)

-- ---- Steps

-- the reply to an accepted change after which the transformation gives this, and to a request to show the result or to write it
abbrev pub change_reply : Outcome → Reply
change_reply (Done result method messages) = OkDone
change_reply (Failed why messages) = OkRefused why

abbrev pub result_reply : Outcome → Reply
result_reply (Done result method messages) = Shown (lines_of result)
result_reply (Failed why messages) = Refused why

-- the result by this output method (XSLT 1.0, section 16): as text its string-value (section 16.3), by any other, or by none, its lines
abbrev pub written_by : Option (Method Expanded) → Plain → Reply
written_by (Some method.Text) result = Written (texts_in result)
written_by _ result = Shown (lines_of result)

abbrev pub written_reply : Outcome → Reply
written_reply (Done result method messages) = written_by method result
written_reply (Failed why messages) = Refused why

-- the messages, each as the line of a text, also where the transformation is refused
abbrev pub messages_in : Outcome → List (List ℕ)
messages_in (Done result method messages) = messages
messages_in (Failed why messages) = messages

abbrev pub messages_reply : Outcome → Reply
messages_reply outcome = Shown (map (λ text. line_of (Data text)) (messages_in outcome))

-- without a stylesheet or without a source nothing is run, nothing asked, and nothing done
abbrev pub IsFreeAt : Code → (ran asked did : ℕ) → Type 0
IsFreeAt (Static code) ran asked did = (ran ≡ 0) × (asked ≡ 0) × (did ≡ 0)
IsFreeAt (Dynamic code) ran asked did = Unit {0}

abbrev pub IsFreeFor : Outcome → (ran asked did : ℕ) → Type 0
IsFreeFor (Done result method messages) ran asked did = Unit {0}
IsFreeFor (Failed why messages) ran asked did = IsFreeAt why.code ran asked did

-- With this outcome the reply tells three numbers of 64 bits, which are 0 where nothing was run. What the first of them counts where something was
-- run is said of a run of the machine that pays (`PaysAlong`), since the machine itself remembers nothing of what was run before
pub record TellsNumbers (outcome : Outcome) (reply : Reply) : Type 0 where
  pub ran : ℕ
  pub asked : ℕ
  pub did : ℕ
  pub ran_fits : ran < 2 ^ 64
  pub asked_fits : asked < 2 ^ 64
  pub did_fits : did < 2 ^ 64
  pub free : IsFreeFor outcome ran asked did
  pub is : reply ≡ Counted ran asked did

-- from old, with this answer, the machine gives this reply and goes on to new
abbrev pub Gives : State → Answer → Reply → State → Type 0
Gives old (Refuses number) reply new = (reply ≡ No number) × (new ≡ old)
Gives old (Changes next) reply new = ((outcome : Outcome) × IsOutcome next.documents outcome × (reply ≡ change_reply outcome)) × (new ≡ next)
Gives old (Pends next) reply new = (reply ≡ OkPending) × (new ≡ next)
Gives old (Drops next) reply new = (reply ≡ OkDropped) × (new ≡ next)
Gives old ShowsResult reply new = ((outcome : Outcome) × IsOutcome old.documents outcome × (reply ≡ result_reply outcome)) × (new ≡ old)
Gives old WritesResult reply new = ((outcome : Outcome) × IsOutcome old.documents outcome × (reply ≡ written_reply outcome)) × (new ≡ old)
Gives old ShowsMessages reply new = ((outcome : Outcome) × IsOutcome old.documents outcome × (reply ≡ messages_reply outcome)) × (new ≡ old)
Gives old (ShowsDocument tree) reply new = (reply ≡ Shown (lines_of tree)) × (new ≡ old)
Gives old TellsCounts reply new = ((outcome : Outcome) × IsOutcome old.documents outcome × TellsNumbers outcome reply) × (new ≡ old)

-- Each command gets its answer. Want of memory, which changes nothing, may come in its place at any command
abbrev pub Step : State → Command → Reply → State → Type 0
Step old command reply new = Gives old (answer_of old command) reply new ⊎ ((reply ≡ No 1) × (new ≡ old))

-- the machine may give these replies to these commands, one step after another
abbrev pub Run : State → List Command → List Reply → State → Type 0
Run old [] [] new = new ≡ old
Run old (command ∷ commands) (reply ∷ replies) new = (between : State) × Step old command reply between × Run between commands replies new
Run old [] (reply ∷ replies) new = ⊥
Run old (command ∷ commands) [] new = ⊥
