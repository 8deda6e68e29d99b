-- What is held, present and pending, what is ready to be adopted, and when it may be.
use Rattle.std.specs.Prelude.{ℕ, ◌≡◌, ◌+◌, ◌<◌, ◌≤◌, Bool, true, false, ◌||◌, List, Option, None, Some, IfSome, Result, Ok, Err, string_bytes}
use Rattle.std.specs.Map.{lookup}
use Rattle.std.specs.Option.{is_some, option_map, unwrap_or}
use Rattle.std.specs.Str.{chars}
use Rattle.std.specs.HashMap.{spare}
use Rattle.std.specs.declared.alloc.Global.{Global}
use Rattle.std.specs.declared.string.String.{String}
use Rattle.spec_document.specs.Fault.{Fault}
use Rattle.spec_document.specs.Forest.{Plain, Document, size}
use Rattle.spec_edit.specs.Edit.{Edit, Edited, edited_document}
use Rattle.spec_move.specs.Move.{moved_document}
use Rattle.spec_run.specs.Documents.{Documents, with_source, with_module, without_module, with_parameter, parameter_fault}
use Rattle.spec_run.specs.Outcome as spec
use Rattle.spec_run.specs.Outcome.{IsOutcome}
use Rattle.spec_structure.specs.Modules.{Modules}
use Rattle.xt_base.specs.Code.{edit_number}
use Rattle.xt_build.specs.declared.fault.BuildFault.{BuildFault}
use Rattle.xt_build.specs.declared.fault.BuildFault.TheVariants as builds
use Rattle.xt_edit.specs.View.{AreBelow}
use Rattle.xt_edit.specs.declared.fault.EditFault.{EditFault}
use Rattle.xt_edit.specs.declared.fault.EditFault.TheVariants as faults
use Rattle.xt_import.specs.View.{is_name, modules_in, plain_of}
use Rattle.xt_held.specs.declared.counts.Counts.{Counts}
use Rattle.xt_world.specs.ParameterView.{HasRoomForOne, parameters_of}
use Rattle.spec_cost.specs.Numbers.{NumberedDocuments, NumberedModules}
use Rattle.spec_cost.specs.Numbers as numbers
use Rattle.xt_held.specs.Called.{AreCalled, numbered_modules}
use Rattle.xt_held.specs.Complete.{KeepsWhere}
use Rattle.xt_held.specs.Cost.{CostsRun}
use Rattle.xt_held.specs.OutcomeView.{Fits, IsFreeFor, outcome_of}
use Rattle.xt_held.specs.RunView.{IsFaultless, LastHolds, LastServes, last_known}
use Rattle.xt_held.specs.StylesheetView.{AreCompiled, IsThere}
use Rattle.xt_held.specs.declared.batch.Batch.{Batch}
use Rattle.xt_held.specs.declared.held.Held.{Held}
use Rattle.xt_held.specs.declared.last_run.LastRun.{LastRun}
use Rattle.xt_held.specs.declared.name.DocName.{DocName}
use Rattle.xt_held.specs.declared.name.DocName.TheVariants as names
use Rattle.xt_held.specs.declared.outcome.Came.{Came}
use Rattle.xt_held.specs.declared.outcome.Outcome.{Outcome}
use Rattle.xt_held.specs.declared.ready.Change.{Change}
use Rattle.xt_held.specs.declared.ready.Change.TheVariants as changes
use Rattle.xt_held.specs.declared.ready.Coming.{Coming}
use Rattle.xt_held.specs.declared.ready.Coming.TheVariants.{Told, Pending}
use Rattle.xt_held.specs.declared.ready.Ready.{Ready}
use Rattle.xt_held.specs.declared.ready.Recompiled.{Recompiled}
use Rattle.xt_held.specs.declared.ready.Recompiled.TheVariants.{AsBefore, Now}
use Rattle.xt_held.specs.declared.stylesheet.Compiled.{Compiled}
use Rattle.xt_held.specs.declared.stylesheet.Compiled.TheVariants.{Stylesheet, Refused}

-- the documents that paths and changes speak of, how many nodes were made so far, and the outcome that is told
abbrev pub documents_of : Held → Documents
documents_of held = record {
  source = option_map plain_of held.source;
  modules = modules_in held.modules.entries;
  parameters = parameters_of held.parameters;
}

abbrev pub made_of : Held → ℕ
made_of held = held.next.number

abbrev pub outcome_in : Held → spec.Outcome
outcome_in held = outcome_of held.outcome

-- what the last change outside a batch, or commit, took, and what the last run that ended with a result left
abbrev pub counts_in : Held → Counts
counts_in held = held.counts

abbrev pub last_in : Held → LastRun
last_in held = held.last

-- ---- What is present, and what is pending

-- what an outcome rests on: the documents, also with the numbers of their nodes, and what the last run that ended with a result left
pub record Basis : Type 0 where
  pub documents : Documents
  pub source : Option (Document ℕ)
  pub modules : NumberedModules
  pub last : LastRun

-- that of what changes speak of
abbrev pub edited_basis : Held → Basis
edited_basis held = record { documents = documents_of held; source = held.source; modules = numbered_modules held.modules.entries; last = held.last }

-- the documents that a batch goes back to where it is abandoned
abbrev pub documents_in : Batch → Documents
documents_in batch = record {
  source = option_map plain_of batch.source;
  modules = modules_in batch.modules.entries;
  parameters = parameters_of batch.parameters;
}

-- that of what is present: while a batch is open what it goes back to, with the changes that were until then
abbrev pub present_by : Option Batch → Basis → Basis
present_by None basis = basis
present_by (Some batch) basis = record {
  documents = documents_in batch;
  source = batch.source;
  modules = numbered_modules batch.modules.entries;
  last = record basis.last { since = batch.since };
}

abbrev pub present_basis : Held → Basis
present_basis held = present_by held.batch (edited_basis held)

-- the documents that are present, of which the outcome is told
abbrev pub present_of : Held → Documents
present_of held = (present_basis held).documents

-- those that are pending, where a batch is open
abbrev pub pending_of : Held → Option Documents
pending_of held = option_map (λ batch. documents_of held) held.batch

-- all numbers of these documents are below this one: of a source, and of the modules of all names
pub record AreAllBelow (first : ℕ) (document : Option (Document ℕ)) (entries : List (String Global × Document ℕ)) : Type 0 where
  pub source : IfSome document (AreBelow first)
  pub modules : (name : List ℕ) → IfSome (lookup (is_name name) entries) (AreBelow first)

abbrev pub HasBelow : ℕ → Held → Type 0
HasBelow first held = AreAllBelow first held.source held.modules.entries

-- what a batch goes back to has numbers below this one, and where no module is edited in it, its modules are these
pub record IsBatchOf (first : ℕ) (modules : Modules) (batch : Batch) : Type 0 where
  pub below : AreAllBelow first batch.source batch.modules.entries
  pub same : batch.is_edited ≡ false → modules ≡ (documents_in batch).modules

-- The outcome that is told is that of the documents that are present, the modules are what is held of that, and the next number is that of no node,
-- present or pending. Where there is a result, the questions of what its run kept have their answers in a run of what is present; else those of the last
-- result that no change since then marks. The same, with the changes of a batch among them, serves a run of what changes speak of
pub record IsCurrent (held : Held) : Type 0 where
  pub outcome : IsOutcome (present_of held) (outcome_in held)
  pub compiled : AreCompiled (present_of held).modules held.compiled
  pub below : HasBelow (made_of held) held
  pub last : LastHolds (outcome_in held) held.compiled (present_of held).parameters (present_basis held).source (present_basis held).last
  pub serves : LastServes held.compiled (parameters_of held.parameters) held.source held.last
  pub batch : IfSome held.batch (IsBatchOf (made_of held) (documents_of held).modules)
  pub free : IsFreeFor (outcome_in held) (counts_in held)

-- what is known of what the last run left while a change is made ready
pub record IsKnown (held : Held) : Type 0 where
  pub last : LastServes held.compiled (parameters_of held.parameters) held.source held.last

-- whether a change of the batch that is open was one of a module
abbrev pub is_edited_by : Option Batch → Bool
is_edited_by None = false
is_edited_by (Some batch) = batch.is_edited

-- nothing of what is told has changed, nor the numbers of the source's nodes, nor what is held of the modules
pub record IsKept (old new : Held) : Type 0 where
  pub documents : documents_of new ≡ documents_of old
  pub present : present_of new ≡ present_of old
  pub pending : pending_of new ≡ pending_of old
  pub made : made_of new ≡ made_of old
  pub outcome : outcome_in new ≡ outcome_in old
  pub counts : counts_in new ≡ counts_in old
  pub last : last_in new ≡ last_in old
  pub source : new.source ≡ old.source
  pub modules : numbered_modules new.modules.entries ≡ numbered_modules old.modules.entries
  pub basis : present_basis new ≡ present_basis old
  pub compiled : new.compiled ≡ old.compiled
  pub is_edited : is_edited_by new.batch ≡ is_edited_by old.batch
  pub current : IsCurrent old → IsCurrent new

abbrev pub document_named : DocName → Documents → Option Plain
document_named names.Source documents = documents.source
document_named (names.Module name) documents = documents.modules name.now

-- the same with the numbers of its nodes
abbrev pub numbered_document : DocName → Held → Option (Document ℕ)
numbered_document names.Source held = held.source
numbered_document (names.Module name) held = lookup (is_name name.now) held.modules.entries

-- where it is to be the source, it is without faults
abbrev pub IsFaultlessAs : DocName → Document ℕ → Type 0
IsFaultlessAs names.Source document = IsFaultless document
IsFaultlessAs (names.Module name) document = Unit {0}

-- this document in place of the one of this name
abbrev pub with_document : DocName → Plain → Documents → Documents
with_document names.Source = with_source
with_document (names.Module name) = with_module name.now

-- the fault of a body as that of a change
abbrev pub edit_fault_of : BuildFault → EditFault
edit_fault_of builds.Memory = faults.Memory
edit_fault_of (builds.Refused fault) = faults.Refused fault.code fault.line

-- ---- What is ready

-- the documents that changes speak of, once it is adopted
abbrev pub changed_by : Change → Documents → Documents
changed_by (changes.Source document) old = with_source (plain_of document) old
changed_by (changes.Module name document compiled) old = with_module (chars (string_bytes name)) (plain_of document) old
changed_by (changes.Dropped name compiled) old = without_module name old
changed_by (changes.Parameter name value) old = with_parameter (chars (string_bytes name)) value old
changed_by (changes.Committed compiled) old = old

-- whether it is a change of a module
abbrev pub is_of_module : Change → Bool
is_of_module (changes.Source document) = false
is_of_module (changes.Module name document compiled) = true
is_of_module (changes.Dropped name compiled) = true
is_of_module (changes.Parameter name value) = false
is_of_module (changes.Committed compiled) = false

-- what is held of what the modules are
abbrev pub compiled_by : Recompiled → (was : Option Compiled) → Option Compiled
compiled_by AsBefore was = was
compiled_by (Now compiled) was = compiled

abbrev pub next_compiled : Change → Held → Option Compiled
next_compiled (changes.Source document) held = held.compiled
next_compiled (changes.Module name document compiled) held = compiled_by compiled held.compiled
next_compiled (changes.Dropped name compiled) held = compiled_by compiled held.compiled
next_compiled (changes.Parameter name value) held = held.compiled
next_compiled (changes.Committed compiled) held = compiled_by compiled held.compiled

-- and the documents with the numbers of their nodes
abbrev pub numbers_of : Held → NumberedDocuments
numbers_of held = record { source = held.source; modules = numbered_modules held.modules.entries }

abbrev pub next_numbers : Change → Held → NumberedDocuments
next_numbers (changes.Source document) held = numbers.with_source document (numbers_of held)
next_numbers (changes.Module name document compiled) held = numbers.with_module (chars (string_bytes name)) (Some document) (numbers_of held)
next_numbers (changes.Dropped name compiled) held = numbers.with_module name None (numbers_of held)
next_numbers (changes.Parameter name value) held = numbers_of held
next_numbers (changes.Committed compiled) held = numbers_of held

abbrev pub next_source : Change → Held → Option (Document ℕ)
next_source change held = (next_numbers change held).source

-- and of the batch: a change of a module is noted, and a commit ends it
abbrev pub with_edit : Batch → Batch
with_edit batch = record batch { is_edited = true }

abbrev pub next_batch : Change → Option Batch → Option Batch
next_batch (changes.Source document) batch = batch
next_batch (changes.Module name document compiled) batch = option_map with_edit batch
next_batch (changes.Dropped name compiled) batch = option_map with_edit batch
next_batch (changes.Parameter name value) batch = batch
next_batch (changes.Committed compiled) batch = None

abbrev pub next_documents : Ready → Held → Documents
next_documents ready held = changed_by ready.change (documents_of held)

abbrev pub next_made : Ready → ℕ
next_made ready = ready.next.number

-- what is told of it: nothing where it is a change in a batch
abbrev pub told_by : Coming → Option spec.Outcome
told_by (Told came) = Some (outcome_of came.outcome)
told_by (Pending since) = None

abbrev pub told_of : Ready → Option spec.Outcome
told_of ready = told_by ready.coming

abbrev pub next_outcome : Ready → Held → spec.Outcome
next_outcome ready held = unwrap_or (told_of ready) (outcome_in held)

abbrev pub counts_by : Coming → Counts → Counts
counts_by (Told came) counts = came.counts
counts_by (Pending since) counts = counts

abbrev pub next_counts : Ready → Held → Counts
next_counts ready held = counts_by ready.coming (counts_in held)

-- what the modules were when they last were a stylesheet, where they are none from now on, by what they were until now
abbrev pub before_by : (compiled was before : Option Compiled) → Option Compiled
before_by None was before = last_known was before
before_by (Some (Refused why)) was before = last_known was before
before_by (Some (Stylesheet stylesheet rules method)) was before = None

abbrev pub before_with : Recompiled → (was before : Option Compiled) → Option Compiled
before_with AsBefore was before = before
before_with (Now compiled) was before = before_by compiled was before

abbrev pub next_before : Change → Held → Option Compiled
next_before (changes.Source document) held = held.last.before
next_before (changes.Module name document compiled) held = before_with compiled held.compiled held.last.before
next_before (changes.Dropped name compiled) held = before_with compiled held.compiled held.last.before
next_before (changes.Parameter name value) held = held.last.before
next_before (changes.Committed compiled) held = before_with compiled held.compiled held.last.before

-- where the new run kept nothing, what the last one kept stays
abbrev pub left_by : Came → (before : Option Compiled) → LastRun → LastRun
left_by came before last = record { kept = unwrap_or came.kept last.kept; since = came.since; before = before }

abbrev pub left_after : Coming → (before : Option Compiled) → LastRun → LastRun
left_after (Told came) before last = left_by came before last
left_after (Pending since) before last = record { kept = last.kept; since = since; before = before }

abbrev pub next_last : Ready → Held → LastRun
next_last ready held = left_after ready.coming (next_before ready.change held) held.last

-- what is present and what is pending, once it is adopted
abbrev pub next_basis : Ready → Held → Basis
next_basis ready held = record {
  documents = next_documents ready held;
  source = next_source ready.change held;
  modules = (next_numbers ready.change held).modules;
  last = next_last ready held;
}

abbrev pub next_present : Ready → Held → Documents
next_present ready held = (present_by (next_batch ready.change held.batch) (next_basis ready held)).documents

abbrev pub next_pending : Ready → Held → Option Documents
next_pending ready held = option_map (λ batch. next_documents ready held) (next_batch ready.change held.batch)

-- with what came in place of what came before
abbrev pub with_came : Came → Held → Held
with_came came held = record held { outcome = came.outcome; counts = came.counts; last = left_by came held.last.before held.last }

abbrev pub outcome_after : Coming → Outcome → Outcome
outcome_after (Told came) outcome = came.outcome
outcome_after (Pending since) outcome = outcome

abbrev pub with_coming : Coming → Held → Held
with_coming coming held = record held {
  outcome = outcome_after coming held.outcome;
  counts = counts_by coming held.counts;
  last = left_after coming held.last.before held.last;
}

-- with what the modules are now in place of what they were, where that is known, and with that noted in a batch that is open
abbrev pub with_recompiled : Recompiled → Held → Held
with_recompiled compiled held = record held {
  compiled = compiled_by compiled held.compiled;
  last = record held.last { before = before_with compiled held.compiled held.last.before };
}

abbrev pub with_edited_modules : Recompiled → Held → Held
with_edited_modules compiled held = record (with_recompiled compiled held) { batch = option_map with_edit held.batch }

-- the outcome and what it took have not changed
pub record StaysTold (old new : Held) : Type 0 where
  pub outcome : outcome_in new ≡ outcome_in old
  pub counts : counts_in new ≡ counts_in old

-- there is room for it, so that no memory is taken
abbrev pub HasRoom : Change → Held → Type 0
HasRoom (changes.Source document) held = Unit {0}
HasRoom (changes.Module name document compiled) held = 0 < spare held.modules
HasRoom (changes.Dropped name compiled) held = Unit {0}
HasRoom (changes.Parameter name value) held = HasRoomForOne held.parameters
HasRoom (changes.Committed compiled) held = Unit {0}

-- the numbers of the document that changes are below this one
abbrev pub IsBelow : ℕ → Change → Type 0
IsBelow first (changes.Source document) = AreBelow first document
IsBelow first (changes.Module name document compiled) = AreBelow first document
IsBelow first (changes.Dropped name compiled) = Unit {0}
IsBelow first (changes.Parameter name value) = Unit {0}
IsBelow first (changes.Committed compiled) = Unit {0}

-- what is told of a change with this outcome, which is present once it is adopted, and of one in a batch, with no outcome
abbrev pub IsToldOf : Option spec.Outcome → Ready → Held → Type 0
IsToldOf (Some outcome) ready held =
    IsOutcome (next_present ready held) outcome × (next_pending ready held ≡ None) × (next_present ready held ≡ next_documents ready held)
IsToldOf None ready held =
    (is_some (pending_of held) ≡ true) × (next_present ready held ≡ present_of held) × (next_pending ready held ≡ Some (next_documents ready held))

-- the modules that will be held are those that are present, and so is what is held of that
pub record ModulesStay (ready : Ready) (held : Held) : Type 0 where
  pub modules : (next_documents ready held).modules ≡ (present_of held).modules
  pub compiled : next_compiled ready.change held ≡ held.compiled

-- Its outcome is that of the documents that will be held, and no batch will be open. What was kept and counted goes with that, the modules are what will
-- be held of that, and where there is a result, the questions of what its run kept will have their answers. The counts are what the run of these documents
-- has cost, over what the last run kept
pub record IsTold (came : Came) (ready : Ready) (held : Held) : Type 0 where
  pub outcome : IsOutcome (next_documents ready held) (outcome_of came.outcome)
  pub closed : next_batch ready.change held.batch ≡ None
  pub fits : Fits came
  pub compiled : AreCompiled (next_documents ready held).modules (next_compiled ready.change held)
  pub last : LastHolds (outcome_of came.outcome) (next_compiled ready.change held) (next_documents ready held).parameters (next_source ready.change held)
      (next_last ready held)
  pub cost : CostsRun (next_compiled ready.change held) (next_documents ready held).parameters (next_source ready.change held) held.last.kept.records
      came.counts
  -- what the run kept is complete, and is there where the run ended with a result
  pub keeps : KeepsWhere (next_compiled ready.change held) (next_documents ready held).parameters (next_source ready.change held) came.kept
  -- where neither it nor the batch that it ends is a change of modules
  pub same : (is_edited_by held.batch || is_of_module ready.change) ≡ false → ModulesStay ready held
  -- and where one is, the elements of the stylesheet are called by their numbers
  pub called : (is_edited_by held.batch || is_of_module ready.change) ≡ true
      → AreCalled (next_documents ready held).modules (next_numbers ready.change held).modules (next_compiled ready.change held)

-- It is a change in a batch: what is present stays, the modules are not compiled, and what the last run kept will serve a run of the documents that will be
-- pending
pub record IsPending (ready : Ready) (held : Held) : Type 0 where
  pub current : IsCurrent held
  pub is_open : is_some (next_batch ready.change held.batch) ≡ true
  pub grows : made_of held ≤ next_made ready
  pub compiled : next_compiled ready.change held ≡ held.compiled
  pub before : next_before ready.change held ≡ held.last.before
  pub serves : LastServes held.compiled (next_documents ready held).parameters (next_source ready.change held) (next_last ready held)

abbrev pub IsComing : Coming → Ready → Held → Type 0
IsComing (Told came) ready held = IsTold came ready held
IsComing (Pending since) ready held = IsPending ready held

-- it was made from what is held, and there is room for it; the next number will be that of no node
pub record IsMadeFrom (held : Held) (ready : Ready) : Type 0 where
  pub outcome : IsToldOf (told_of ready) ready held
  pub comes : IsComing ready.coming ready held
  pub room : HasRoom ready.change held
  pub others : HasBelow (next_made ready) held
  pub below : IsBelow (next_made ready) ready.change

-- it changes the documents that changes speak of so, after which so many nodes were made, and leaves a batch open
pub record IsReady (change : Documents → Documents) (nodes : ℕ) (held : Held) (ready : Ready) : Type 0 where
  pub documents : next_documents ready held ≡ change (documents_of held)
  pub made : next_made ready ≡ nodes
  pub pending : next_pending ready held ≡ option_map (λ documents. next_documents ready held) (pending_of held)
  pub from : IsMadeFrom held ready

-- ---- What a change is answered. Want of memory is free

-- where this is the document of its lines, or their least fault: it has its place among those that are held, and its numbers come after all that
-- were given so far
abbrev pub Prepares : (Plain → Documents → Documents) → Held → Result (Document ℕ) Fault → Result Ready EditFault → Type 0
Prepares with_it held answer (Ok ready) =
    (document : Document ℕ) × (answer ≡ Ok document) × IsReady (with_it (plain_of document)) (made_of held + 1 + size document.nodes) held ready
Prepares with_it held answer (Err (faults.Refused code line)) = answer ≡ Err (record { number = edit_number code; line = line })
Prepares with_it held answer (Err faults.Memory) = Unit {0}

-- the document of this name is held as it is edited
abbrev pub IsEdited : DocName → Edited (Unit {0}) → Held → Ready → Type 0
IsEdited name new held ready = IsReady (with_document name new.nodes) (made_of held + new.made) held ready

-- where this is what the document of this name becomes: it is held so, or the least refusal is answered
abbrev pub PreparesEdited : DocName → Held → Result (Edited (Unit {0})) Fault → Result Ready EditFault → Type 0
PreparesEdited name held answer (Ok ready) = (new : Edited (Unit {0})) × (answer ≡ Ok new) × IsEdited name new held ready
PreparesEdited name held answer (Err (faults.Refused code line)) = answer ≡ Err (record { number = edit_number code; line = line })
PreparesEdited name held answer (Err faults.Memory) = Unit {0}

-- where it is to be edited so, and where the node at a path of it is to move before what is at another
abbrev pub PreparesEdit : DocName → Edit → Held → Result Ready EditFault → Type 0
PreparesEdit name edit held result =
    PreparesEdited name held (edited_document (made_of held) edit (document_named name (documents_of held))) result

abbrev pub PreparesMove : DocName → (path other : List ℕ) → Held → Result Ready EditFault → Type 0
PreparesMove name path other held result =
    PreparesEdited name held (moved_document (made_of held) path other (document_named name (documents_of held))) result

-- where the module of this name is to be dropped, which makes no node: 5 where there is none
abbrev pub PreparesDrop : (name : List ℕ) → Held → Result Ready EditFault → Type 0
PreparesDrop name held (Ok ready) = IsThere (documents_of held).modules name × IsReady (without_module name) (made_of held) held ready
PreparesDrop name held (Err (faults.Refused code line)) = ((documents_of held).modules name ≡ None) × (edit_number code ≡ 5) × (line ≡ 0)
PreparesDrop name held (Err faults.Memory) = Unit {0}

-- where a parameter of this name is to be given this value, which makes no node
abbrev pub PreparesParameter : (name value : List ℕ) → Held → Result Ready EditFault → Type 0
PreparesParameter name value held (Ok ready) = (parameter_fault name value ≡ None) × IsReady (with_parameter name value) (made_of held) held ready
PreparesParameter name value held (Err (faults.Refused code line)) = (parameter_fault name value ≡ Some (edit_number code)) × (line ≡ 0)
PreparesParameter name value held (Err faults.Memory) = Unit {0}

-- ---- Batches

-- what is present is pending too, and nothing else has changed
pub record IsBegun (old new : Held) : Type 0 where
  pub was : pending_of old ≡ None
  pub pending : pending_of new ≡ Some (documents_of old)
  pub present : present_of new ≡ present_of old
  pub documents : documents_of new ≡ documents_of old
  pub made : made_of new ≡ made_of old
  pub outcome : outcome_in new ≡ outcome_in old
  pub counts : counts_in new ≡ counts_in old

-- where a batch is to be opened: 16 where one is open
abbrev pub Begins : (old new : Held) → Result (Unit {0}) EditFault → Type 0
Begins old new (Ok done) = IsBegun old new
Begins old new (Err (faults.Refused code line)) = (edit_number code ≡ 16) × (is_some (pending_of old) ≡ true) × IsKept old new × (line ≡ 0)
Begins old new (Err faults.Memory) = IsKept old new

-- what is pending will be present, in one change, of which an outcome is told
pub record IsCommit (held : Held) (ready : Ready) : Type 0 where
  pub is_open : is_some (pending_of held) ≡ true
  pub present : next_present ready held ≡ documents_of held
  pub pending : next_pending ready held ≡ None
  pub made : next_made ready ≡ made_of held
  pub from : IsMadeFrom held ready
  pub told : is_some (told_of ready) ≡ true

-- where a batch is to be committed: 17 where none is open
abbrev pub PreparesCommit : Held → Result Ready EditFault → Type 0
PreparesCommit held (Ok ready) = IsCommit held ready
PreparesCommit held (Err (faults.Refused code line)) = (edit_number code ≡ 17) × (pending_of held ≡ None) × (line ≡ 0)
PreparesCommit held (Err faults.Memory) = Unit {0}

-- what a batch goes back to, in place of what was pending
abbrev pub gone_back : Batch → Held → Held
gone_back batch held = record held { source = batch.source; modules = batch.modules; parameters = batch.parameters; last = record held.last { since = batch.since } }

-- what was pending is dropped, but for the numbers that its nodes were given
pub record IsAbandoned (old new : Held) : Type 0 where
  pub is_open : is_some (pending_of old) ≡ true
  pub documents : documents_of new ≡ present_of old
  pub present : present_of new ≡ present_of old
  pub pending : pending_of new ≡ None
  pub made : made_of new ≡ made_of old
  pub outcome : outcome_in new ≡ outcome_in old
  pub counts : counts_in new ≡ counts_in old

-- where a batch is to be abandoned: 17 where none is open. It takes no memory
abbrev pub Abandons : (old new : Held) → Result (Unit {0}) EditFault → Type 0
Abandons old new (Ok done) = IsAbandoned old new
Abandons old new (Err (faults.Refused code line)) = (edit_number code ≡ 17) × (pending_of old ≡ None) × IsKept old new × (line ≡ 0)
Abandons old new (Err faults.Memory) = ⊥
