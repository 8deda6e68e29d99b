-- What is held stands for the machine's state.
use Rattle.std.specs.Prelude.{Bool, true, false, Option, None, Some}
use Rattle.spec_document.specs.Name.{Expanded}
use Rattle.spec_edit.specs.Edit as edits
use Rattle.spec_edit.specs.Edit.{Edit}
use Rattle.spec_stylesheet.specs.declared.method.Method.{Method}
use Rattle.spec_stylesheet.specs.declared.method.Method.TheVariants as method
use Rattle.spec_run.specs.Outcome.{Outcome}
use Rattle.spec_session.specs.Machine.{State, Answer, Changes, Pends, change_reply}
use Rattle.spec_session.specs.Reply.{Reply, OkPending}
use Rattle.spec_session.specs.Request.{DocumentName, SourceName, ModuleName, Request, Insert, Delete, SetText, SetAttribute, RemoveAttribute, Rename}
use Rattle.xt_held.specs.View.{made_of, next_made, next_pending, next_present, pending_of, present_of, told_of}
use Rattle.xt_held.specs.declared.held.Held.{Held}
use Rattle.xt_held.specs.declared.ready.Ready.{Ready}
use Rattle.xt_held.specs.declared.name.DocName.{DocName}
use Rattle.xt_held.specs.declared.name.DocName.TheVariants as names

abbrev pub state_of : Held → State
state_of held = record { documents = present_of held; made = made_of held; pending = pending_of held }

-- and once this is adopted
abbrev pub next_state : Ready → Held → State
next_state ready held = record { documents = next_present ready held; made = next_made ready; pending = next_pending ready held }

-- what the machine answers and replies where this is told of what is adopted: a change in a batch has no outcome
abbrev pub answer_told : Option Outcome → State → Answer
answer_told (Some outcome) next = Changes next
answer_told None next = Pends next

abbrev pub reply_told : Option Outcome → Reply
reply_told (Some outcome) = change_reply outcome
reply_told None = OkPending

abbrev pub adopted : Ready → Held → Answer
adopted ready held = answer_told (told_of ready) (next_state ready held)

-- a document's name, by what it is called where it is held
abbrev pub name_in : DocName → DocumentName
name_in names.Source = SourceName
name_in (names.Module name) = ModuleName name.now

-- what is asked where a document is to be edited so
abbrev pub request_by : DocumentName → Edit → Request
request_by document (edits.Insert path body) = Insert document path body
request_by document (edits.Delete path) = Delete document path
request_by document (edits.SetText path value) = SetText document path value
request_by document (edits.SetAttribute path name value) = SetAttribute document path name value
request_by document (edits.RemoveAttribute path name) = RemoveAttribute document path name
request_by document (edits.Rename path name) = Rename document path name

-- whether a result is written as text
abbrev pub is_text : Option (Method Expanded) → Bool
is_text (Some method.Text) = true
is_text _ = false
