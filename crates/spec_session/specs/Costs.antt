-- What the machine's steps cost, told beside it: what each makes of the past that a session remembers for `stats`. No other reply looks at that.
--     numbered_after  the documents with the numbers of their nodes, after a request
--     marks_of        what a request tells of what changed
--     Goes            what a step makes of the past
--     PaysAlong       a run of the machine, with the past
use Rattle.std.specs.Prelude.{ℕ, ◌≡◌, ◌⊎◌, Bool, true, false, List, [], ◌∷◌, Option, None, Some, Result, Ok, Err}
use Rattle.spec_document.specs.Scope.{root_scope}
use Rattle.spec_document.specs.Forest.{Document}
use Rattle.spec_document.specs.Document.{document_of}
use Rattle.spec_document.specs.Fault.{Fault}
use Rattle.spec_edit.specs.Edit as edits
use Rattle.spec_edit.specs.Edit.{Edited, edited_nodes}
use Rattle.spec_move.specs.Move.{moved_nodes}
use Rattle.spec_cost.specs.Marking.{Known, Mark, Given, Anything, edit_marks, marks_between, move_marks}
use Rattle.spec_cost.specs.Numbers.{NumberedDocuments, given_source, given_module, dropped_module, edited_source, edited_module}
use Rattle.spec_cost.specs.Past.{Past}
use Rattle.spec_cost.specs.Paying.{Pays, with_pending, without_pending}
use Rattle.spec_session.specs.Command.{Command}
use Rattle.spec_session.specs.Request.{DocumentName, SourceName, ModuleName, Request, SetSource, SetModule, DropModule, Insert, Delete, SetText, SetAttribute, RemoveAttribute, Rename, Move, SetParameter, request_of}
use Rattle.spec_session.specs.Reply.{Reply, Counted, No}
use Rattle.spec_session.specs.Machine.{State, Answer, Refuses, Changes, Pends, Drops, ShowsResult, WritesResult, ShowsMessages, ShowsDocument, TellsCounts, Step, answer_of}

-- ---- What a request changes

abbrev pub is_module : DocumentName → Bool
is_module SourceName = false
is_module (ModuleName name) = true

-- whether it is a change of a module
abbrev pub is_of_module : Request → Bool
is_of_module (SetModule name body) = true
is_of_module (DropModule name) = true
is_of_module (Insert document path body) = is_module document
is_of_module (Delete document path) = is_module document
is_of_module (SetText document path value) = is_module document
is_of_module (SetAttribute document path name value) = is_module document
is_of_module (RemoveAttribute document path name) = is_module document
is_of_module (Rename document path name) = is_module document
is_of_module (Move document path other) = is_module document
is_of_module _ = false

-- the document of this name is edited so
abbrev pub edited_as : DocumentName → (Document ℕ → Result (Edited ℕ) Fault) → NumberedDocuments → NumberedDocuments
edited_as SourceName edit = edited_source edit
edited_as (ModuleName name) edit = edited_module name edit

-- where it is accepted, and so many nodes were made before: what is made has numbers from there on
abbrev pub numbered_after : (made : ℕ) → Request → NumberedDocuments → NumberedDocuments
numbered_after made (SetSource body) before = given_source (document_of root_scope made body) before
numbered_after made (SetModule name body) before = given_module name (document_of root_scope made body) before
numbered_after made (DropModule name) before = dropped_module name before
numbered_after made (Insert document path body) before = edited_as document (edited_nodes made (edits.Insert path body)) before
numbered_after made (Delete document path) before = edited_as document (edited_nodes made (edits.Delete path)) before
numbered_after made (SetText document path value) before = edited_as document (edited_nodes made (edits.SetText path value)) before
numbered_after made (SetAttribute document path name value) before = edited_as document (edited_nodes made (edits.SetAttribute path name value)) before
numbered_after made (RemoveAttribute document path name) before = edited_as document (edited_nodes made (edits.RemoveAttribute path name)) before
numbered_after made (Rename document path name) before = edited_as document (edited_nodes made (edits.Rename path name)) before
numbered_after made (Move document path other) before = edited_as document (moved_nodes made path other) before
numbered_after made _ before = before

-- what a change of the document of this name tells: of the source what it marks, and of a module nothing by itself
abbrev pub marks_as : DocumentName → (Document ℕ → Document ℕ → Mark) → (before after : NumberedDocuments) → List Mark
marks_as SourceName mark before after = marks_between mark before.source after.source
marks_as (ModuleName name) mark before after = []

-- by the rules for white space that are known of
abbrev pub marks_of : Known → Request → (before after : NumberedDocuments) → List Mark
marks_of known (SetSource body) before after = Anything ∷ []
marks_of known (Insert document path body) before after = marks_as document (edit_marks known (edits.Insert path body)) before after
marks_of known (Delete document path) before after = marks_as document (edit_marks known (edits.Delete path)) before after
marks_of known (SetText document path value) before after = marks_as document (edit_marks known (edits.SetText path value)) before after
marks_of known (SetAttribute document path name value) before after =
    marks_as document (edit_marks known (edits.SetAttribute path name value)) before after
marks_of known (RemoveAttribute document path name) before after =
    marks_as document (edit_marks known (edits.RemoveAttribute path name)) before after
marks_of known (Rename document path name) before after = marks_as document (edit_marks known (edits.Rename path name)) before after
marks_of known (Move document path other) before after = marks_as document (move_marks known path other) before after
marks_of known (SetParameter name value) before after = Given name ∷ []
marks_of known _ before after = []

-- ---- What a step makes of the past

-- the first number that is told is how many instantiations were run, the second how many questions were asked again
abbrev pub TellsCost : (ran asked : ℕ) → Reply → Type 0
TellsCost ran asked reply = (did : ℕ) × (reply ≡ Counted ran asked did)

-- where the request has this answer. In a batch nothing is run, and the numbered documents alone change
abbrev pub GoesBy : State → Request → Answer → Reply → (before after : Past) → Type 0
GoesBy old request (Refuses number) reply before after = after ≡ before
GoesBy old request (Changes new) reply before after =
    let numbered = numbered_after old.made request before.edited in
    Pays new.documents numbered (is_of_module request) (marks_of before.known request before.edited numbered) before after
GoesBy old request (Pends new) reply before after =
    let numbered = numbered_after old.made request before.edited in
    after ≡ with_pending numbered (is_of_module request) (marks_of before.known request before.edited numbered) before
GoesBy old request (Drops new) reply before after = after ≡ without_pending before
GoesBy old request ShowsResult reply before after = after ≡ before
GoesBy old request WritesResult reply before after = after ≡ before
GoesBy old request ShowsMessages reply before after = after ≡ before
GoesBy old request (ShowsDocument tree) reply before after = after ≡ before
GoesBy old request TellsCounts reply before after = (after ≡ before) × TellsCost before.ran before.asked reply

-- a command that asks nothing is refused
abbrev pub GoesOf : State → Result Request ℕ → Answer → Reply → (before after : Past) → Type 0
GoesOf old (Err number) answer reply before after = after ≡ before
GoesOf old (Ok request) answer reply before after = GoesBy old request answer reply before after

-- want of memory changes nothing
abbrev pub Goes : State → Command → Reply → (before after : Past) → Type 0
Goes old command reply before after = GoesOf old (request_of command) (answer_of old command) reply before after ⊎ ((reply ≡ No 1) × (after ≡ before))

-- ---- What a run makes of it

-- the machine may give these replies to these commands, one step after another, and this becomes of the past
abbrev pub PaysAlong : State → Past → List Command → List Reply → State → Past → Type 0
PaysAlong old before [] [] new after = (new ≡ old) × (after ≡ before)
PaysAlong old before (command ∷ commands) (reply ∷ replies) new after =
    (between : State) × (then : Past) × Step old command reply between × Goes old command reply before then
    × PaysAlong between then commands replies new after
PaysAlong old before [] (reply ∷ replies) new after = ⊥
PaysAlong old before (command ∷ commands) [] new after = ⊥
