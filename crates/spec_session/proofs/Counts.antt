-- No command but `stats` is told the counts.
use Rattle.std.proofs.Common.{ℕ, List, Option, None, Some, Ok, Err, refl}
use Rattle.std.specs.Prelude.{◌≢◌, Result}
use Rattle.spec_document.specs.Forest.{Plain, Document}
use Rattle.spec_document.specs.Fault.{Fault}
use Rattle.spec_document.specs.Document.{document_of}
use Rattle.spec_document.specs.Scope.{root_scope}
use Rattle.spec_edit.specs.Edit as edits
use Rattle.spec_edit.specs.Edit.{Edit, Edited, edited_document}
use Rattle.spec_move.specs.Move.{moved_document}
use Rattle.spec_run.specs.Documents.{Documents, with_source, with_module, parameter_fault}
use Rattle.spec_session.specs.Request.{DocumentName, Request, SetSource, SetModule, DropModule, Insert, Delete, SetText, SetAttribute}
use Rattle.spec_session.specs.Request.{RemoveAttribute, Rename, Move, SetParameter, Show, Write, Messages, Dump, Statistics, Begin, Commit, Abandon}
use Rattle.spec_session.specs.Machine.{State, TellsCounts, edited_documents, document_named, accepted, accepted_by, kept_by, dropped_by, given_by}
use Rattle.spec_session.specs.Machine.{edited_by, edited_in, begun, committed, abandoned, shows, answer_to, answer_by}

taken_by : (o : Option Documents) (old : State) (documents : Documents) (made : ℕ) → accepted_by o old documents made ≢ TellsCounts
taken_by None old documents made = λ e. cc
taken_by (Some pending) old documents made = λ e. cc

taken : (old : State) (documents : Documents) (made : ℕ) → accepted old documents made ≢ TellsCounts
taken old documents made = taken_by old.pending old documents made

kept : (make : Plain → Documents → Documents) (old : State) (r : Result (Document ℕ) Fault) → kept_by make old r ≢ TellsCounts
kept make old (Ok document) = taken old _ _
kept make old (Err fault) = λ e. cc

dropped : (name : List ℕ) (old : State) (o : Option Plain) → dropped_by name old o ≢ TellsCounts
dropped name old None = λ e. cc
dropped name old (Some tree) = taken old _ _

given : (name value : List ℕ) (old : State) (o : Option ℕ) → given_by name value old o ≢ TellsCounts
given name value old None = taken old _ _
given name value old (Some number) = λ e. cc

changed : (old : State) (document : DocumentName) (r : Result (Edited (Unit {0})) Fault) → edited_by old document r ≢ TellsCounts
changed old document (Ok edited) = taken old _ _
changed old document (Err fault) = λ e. cc

edited : (old : State) (document : DocumentName) (edit : Edit) → edited_in old document edit ≢ TellsCounts
edited old document edit = changed old document (edited_document old.made edit (document_named old document))

opened : (old : State) (o : Option Documents) → begun old o ≢ TellsCounts
opened old None = λ e. cc
opened old (Some pending) = λ e. cc

closed : (old : State) (o : Option Documents) → committed old o ≢ TellsCounts
closed old None = λ e. cc
closed old (Some pending) = λ e. cc

let_go : (old : State) (o : Option Documents) → abandoned old o ≢ TellsCounts
let_go old None = λ e. cc
let_go old (Some pending) = λ e. cc

shown : (o : Option Plain) → shows o ≢ TellsCounts
shown None = λ e. cc
shown (Some tree) = λ e. cc

asked : (old : State) (request : Request) → request ≢ Statistics → answer_to old request ≢ TellsCounts
asked old (SetSource body) differs = kept with_source old (document_of root_scope old.made body)
asked old (SetModule name body) differs = kept (with_module name) old (document_of root_scope old.made body)
asked old (DropModule name) differs = dropped name old ((edited_documents old).modules name)
asked old (SetParameter name value) differs = given name value old (parameter_fault name value)
asked old Show differs = λ e. cc
asked old Write differs = λ e. cc
asked old Messages differs = λ e. cc
asked old (Dump document) differs = shown (document_named old document)
asked old (Insert document path body) differs = edited old document (edits.Insert path body)
asked old (Delete document path) differs = edited old document (edits.Delete path)
asked old (SetText document path value) differs = edited old document (edits.SetText path value)
asked old (SetAttribute document path name value) differs = edited old document (edits.SetAttribute path name value)
asked old (RemoveAttribute document path name) differs = edited old document (edits.RemoveAttribute path name)
asked old (Rename document path name) differs = edited old document (edits.Rename path name)
asked old (Move document path other) differs = changed old document (moved_document old.made path other (document_named old document))
asked old Statistics differs = absurd (differs refl)
asked old Begin differs = opened old old.pending
asked old Commit differs = closed old old.pending
asked old Abandon differs = let_go old old.pending

pub no_counts : (old : State) (r : Result Request ℕ) → r ≢ Ok Statistics → answer_by old r ≢ TellsCounts
no_counts old (Err number) differs = λ e. cc
no_counts old (Ok request) differs = asked old request (λ e. differs (λ i. Ok (e i)))
