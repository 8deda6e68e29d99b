-- No answer of the machine refuses by the number of want of memory, and the modules, present and pending, are finitely many in each state that it comes to.
use Rattle.std.proofs.Common.{◌≡◌, ℕ, Bool, true, false, List, [], ◌∷◌, Option, None, Some, bytes_eq, refl, lit<, subst, inl, inr, sym}
use Rattle.std.specs.Prelude.{◌||◌, Result, Ok, Err, if◌then◌else◌}
use Rattle.std.specs.Option.{unwrap_or}
use Rattle.std.specs.Str.{chars}
use Rattle.std.specs.List.{list_all}
use Rattle.spec_document.specs.Character.{is_char}
use Rattle.spec_document.specs.Name.{is_ncname}
use Rattle.spec_document.specs.Scope.{root_scope}
use Rattle.spec_document.specs.Forest.{Plain, Document, plain}
use Rattle.spec_document.specs.Fault.{Fault}
use Rattle.spec_edit.specs.Edit as edits
use Rattle.spec_edit.specs.Edit.{Edit, Edited}
use Rattle.spec_move.specs.Move.{moved_document}
use Rattle.spec_session.specs.Command.{Command}
use Rattle.spec_session.specs.Request.{DocumentName, SourceName, ModuleName, Request, SetSource, SetModule}
use Rattle.spec_session.specs.Request.{DropModule, Insert, Delete, SetText, SetAttribute, RemoveAttribute, Rename, Move}
use Rattle.spec_session.specs.Request.{SetParameter, Show, Write, Messages, Dump, Statistics, Begin, Commit, Abandon, request_by, Words, is_text}
use Rattle.spec_session.specs.Request.{is_taken, or_number, asked_by, words_of}
use Rattle.spec_structure.specs.Modules.{is_among}
use Rattle.spec_run.specs.Documents.{Documents, with_source, with_module, without_module, parameter_fault}
use Rattle.spec_session.specs.Reply.{Reply}
use Rattle.spec_session.specs.Machine.{State, initial, Step, Run, answer_of, answer_by, answer_to}
use Rattle.spec_session.specs.Machine.{edited_documents, accepted, accepted_by, kept_by, dropped_by, given_by, with_document, edited_by, edited_in}
use Rattle.spec_session.specs.Machine.{begun, committed, abandoned, shows, document_named}
use Rattle.spec_session.proofs.Steps.{AreFinite, ArePendingFinite, HasFinite, IsOther, finite_after}
use Rattle.spec_session.proofs.FaultNumbers.{FaultIsAbove, fault-above}
use Rattle.spec_session.proofs.EditFaults.{edit-above}
use Rattle.spec_session.proofs.MoveFaults.{move-above}

-- ---- The modules

with_one_more : (name other : List ℕ) (names : List (List ℕ)) (nodes its : Plain) (before : Option Plain) (b : Bool)
    → (before ≡ Some its → is_among other names ≡ true) → (if b then Some nodes else before) ≡ Some its → (b || is_among other names) ≡ true
with_one_more name other names nodes its before true h e = refl
with_one_more name other names nodes its before false h e = h e

finite_with : (name : List ℕ) (nodes : Plain) (old : Documents) → AreFinite old → AreFinite (with_module name nodes old)
finite_with name nodes old finite = record {
  names = name ∷ finite.names;
  all = λ other its e. with_one_more name other finite.names nodes its (old.modules other) (bytes_eq other name) (finite.all other its) e;
}

without_one : (other : List ℕ) (names : List (List ℕ)) (its : Plain) (before : Option Plain) (b : Bool)
    → (before ≡ Some its → is_among other names ≡ true) → (if b then None else before) ≡ Some its → is_among other names ≡ true
without_one other names its before true h e = absurd (cc)
without_one other names its before false h e = h e

finite_without : (name : List ℕ) (old : Documents) → AreFinite old → AreFinite (without_module name old)
finite_without name old finite = record {
  names = finite.names;
  all = λ other its e. without_one other finite.names its (old.modules other) (bytes_eq other name) (finite.all other its) e;
}

finite_source : (nodes : Plain) (old : Documents) → AreFinite old → AreFinite (with_source nodes old)
finite_source nodes old finite = record { names = finite.names; all = finite.all }

at_start : HasFinite initial
at_start = record { present = record { names = []; all = λ name its e. absurd (cc) }; pending = tt }

-- those that a change speaks of
edited_finite : (o : Option Documents) (documents : Documents) → AreFinite documents → ArePendingFinite o → AreFinite (unwrap_or o documents)
edited_finite None documents finite pending = finite
edited_finite (Some documents) present finite pending = pending

current : (old : State) → HasFinite old → AreFinite (edited_documents old)
current old finite = edited_finite old.pending old.documents finite.present finite.pending

finite_at : (document : DocumentName) (nodes : Plain) (old : Documents) → AreFinite old → AreFinite (with_document document nodes old)
finite_at SourceName nodes old finite = finite_source nodes old finite
finite_at (ModuleName name) nodes old finite = finite_with name nodes old finite

-- ---- Each answer

taken_by : (o : Option Documents) (old : State) → AreFinite old.documents → (documents : Documents) (made : ℕ) → AreFinite documents
    → IsOther (accepted_by o old documents made)
taken_by None old before documents made finite = record { present = finite; pending = tt }
taken_by (Some pending) old before documents made finite = record { present = before; pending = finite }

taken : (old : State) → HasFinite old → (documents : Documents) (made : ℕ) → AreFinite documents → IsOther (accepted old documents made)
taken old finite documents made after = taken_by old.pending old finite.present documents made after

kept : (make : Plain → Documents → Documents) (old : State) → HasFinite old → (result : Result (Document ℕ) Fault) → FaultIsAbove result
    → ((nodes : Plain) → AreFinite (make nodes (edited_documents old))) → IsOther (kept_by make old result)
kept make old finite (Ok document) h after = taken old finite _ _ (after (plain document.nodes))
kept make old finite (Err fault) h after = h

dropped : (name : List ℕ) (old : State) → HasFinite old → (o : Option Plain) → IsOther (dropped_by name old o)
dropped name old finite None = lit< tt
dropped name old finite (Some tree) = taken old finite _ _ (finite_without name (edited_documents old) (current old finite))

given : (name value : List ℕ) (old : State) → HasFinite old → IsOther (given_by name value old (parameter_fault name value))
given name value old finite = go (list_all is_char value) (is_ncname name)
  where
    go : (of_chars is_name : Bool) → IsOther (given_by name value old (if of_chars then (if is_name then None else Some 10) else Some 8))
    go true true = taken old finite _ _ (record { names = (current old finite).names; all = (current old finite).all })
    go true false = lit< tt
    go false is_name = lit< tt

changed : (old : State) → HasFinite old → (document : DocumentName) (result : Result (Edited (Unit {0})) Fault) → FaultIsAbove result
    → IsOther (edited_by old document result)
changed old finite document (Err fault) h = h
changed old finite document (Ok edited) h =
    taken old finite _ _ (finite_at document edited.nodes (edited_documents old) (current old finite))

edited : (old : State) → HasFinite old → (document : DocumentName) (edit : Edit) → IsOther (edited_in old document edit)
edited old finite document edit = changed old finite document _ (edit-above old.made edit (document_named old document))

moved : (old : State) → HasFinite old → (document : DocumentName) (path other : List ℕ)
    → IsOther (edited_by old document (moved_document old.made path other (document_named old document)))
moved old finite document path other = changed old finite document _ (move-above old.made path other (document_named old document))

opened : (old : State) → AreFinite old.documents → (o : Option Documents) → IsOther (begun old o)
opened old finite None = record { present = finite; pending = finite }
opened old finite (Some pending) = lit< tt

closed : (old : State) (o : Option Documents) → ArePendingFinite o → IsOther (committed old o)
closed old None finite = lit< tt
closed old (Some pending) finite = record { present = finite; pending = tt }

let_go : (old : State) → AreFinite old.documents → (o : Option Documents) → IsOther (abandoned old o)
let_go old finite None = lit< tt
let_go old finite (Some pending) = record { present = finite; pending = tt }

shown : (o : Option Plain) → IsOther (shows o)
shown None = lit< tt
shown (Some tree) = tt

to : (old : State) → HasFinite old → (request : Request) → IsOther (answer_to old request)
to old finite (SetSource body) =
    kept with_source old finite _ (fault-above root_scope old.made body) (λ nodes. finite_source nodes (edited_documents old) (current old finite))
to old finite (SetModule name body) =
    kept (with_module name) old finite _ (fault-above root_scope old.made body)
    (λ nodes. finite_with name nodes (edited_documents old) (current old finite))
to old finite Show = tt
to old finite (Dump document) = shown (document_named old document)
to old finite (DropModule name) = dropped name old finite ((edited_documents old).modules name)
to old finite (Insert document path body) = edited old finite document (edits.Insert path body)
to old finite (Delete document path) = edited old finite document (edits.Delete path)
to old finite (SetText document path value) = edited old finite document (edits.SetText path value)
to old finite (SetAttribute document path name value) = edited old finite document (edits.SetAttribute path name value)
to old finite (RemoveAttribute document path name) = edited old finite document (edits.RemoveAttribute path name)
to old finite (Rename document path name) = edited old finite document (edits.Rename path name)
to old finite (Move document path other) = moved old finite document path other
to old finite (SetParameter name value) = given name value old finite
to old finite Write = tt
to old finite Messages = tt
to old finite Statistics = tt
to old finite Begin = opened old finite.present old.pending
to old finite Commit = closed old old.pending finite.pending
to old finite Abandon = let_go old finite.present old.pending

formed : (old : State) → HasFinite old → (o : Option Request) → IsOther (answer_by old (or_number o 4))
formed old finite None = lit< tt
formed old finite (Some request) = to old finite request

worded : (old : State) → HasFinite old → (words : Words) (body : List (List ℕ)) (taken : Bool)
    → IsOther (answer_by old (if taken then or_number (asked_by words body) 4 else Err 3))
worded old finite words body true = formed old finite (asked_by words body)
worded old finite words body false = lit< tt

texts : (old : State) → HasFinite old → (words : Words) (body : List (List ℕ)) (text : Bool)
    → IsOther (answer_by old (if text then request_by words body else Err 2))
texts old finite words body true = worded old finite words body (is_taken words.first)
texts old finite words body false = lit< tt

pub is_other : (old : State) → HasFinite old → (command : Command) → IsOther (answer_of old command)
is_other old finite command = texts old finite (words_of (chars command.line)) command.body (is_text command)

-- ---- Each state that a run comes to

after_step : (old : State) → HasFinite old → (command : Command) (reply : Reply) (new : State) → Step old command reply new
    → HasFinite new
after_step old finite command reply new (inl g) = finite_after old finite (answer_of old command) (is_other old finite command) reply new g
after_step old finite command reply new (inr g) = subst HasFinite (sym g.1) finite

after_run : (old : State) → HasFinite old → (commands : List Command) (replies : List Reply) (new : State) → Run old commands replies new
    → HasFinite new
after_run old finite [] [] new r = subst HasFinite (sym r) finite
after_run old finite [] (reply ∷ replies) new r = absurd r
after_run old finite (command ∷ commands) [] new r = absurd r
after_run old finite (command ∷ commands) (reply ∷ replies) new r =
    after_run r.0 (after_step old finite command reply r.0 r.1) commands replies new r.2

pub come_to : (commands : List Command) (replies : List Reply) (state : State) → Run initial commands replies state → HasFinite state
come_to commands replies state r = after_run initial at_start commands replies state r
