-- What the types of this crate stand for.
use Rattle.std.specs.Prelude.{ℕ, ◌≡◌, List, Option, None, Some, Result, Ok, Err}
use Rattle.std.specs.Option.{option_map}
use Rattle.std.specs.Str.{chars}
use Rattle.spec_stylesheet.specs.Place as stylesheet
use Rattle.spec_run.specs.Outcome as outcome
use Rattle.spec_session.specs.Request as spec
use Rattle.spec_session.specs.Request.{Request, or_number}
use Rattle.spec_session.specs.Reply as written
use Rattle.xt_base.specs.Code.{edit_number}
use Rattle.xt_base.specs.declared.codes.EditCode.{EditCode}
use Rattle.xt_base.specs.declared.codes.EditCode.TheVariants as edit
use Rattle.xt_base.specs.declared.place.Place.{Place}
use Rattle.xt_wire.specs.declared.command.Command.{Command}
use Rattle.xt_wire.specs.declared.command.Command.TheVariants.{SetSource, SetModule, DropModule, Show, Dump, Write, SetParameter, Messages, Statistics}
use Rattle.xt_wire.specs.declared.command.Command.TheVariants.{Insert, Delete, SetText, SetAttribute, RemoveAttribute, Rename, Move, Begin, Commit, Abandon}
use Rattle.xt_wire.specs.declared.document.DocumentName.{DocumentName}
use Rattle.xt_wire.specs.declared.document.DocumentName.TheVariants.{Source, Module}
use Rattle.xt_wire.specs.declared.fault.WireFault.{WireFault}
use Rattle.xt_wire.specs.declared.fault.WireFault.TheVariants as variant
use Rattle.xt_wire.specs.declared.replies.Refusal.{Refusal}
use Rattle.xt_wire.specs.declared.replies.Reply.{Reply}
use Rattle.xt_wire.specs.declared.replies.Reply.TheVariants.{OkDone, OkRefused, OkPending, OkDropped, Refused, Shown, Written, Counted, No}
use Rattle.xt_wire.specs.declared.target.Target.{Target}
use Rattle.xt_wire.specs.declared.word.Words.{Words}
use denote.Ref.{Bor}

-- ---- Words

abbrev pub characters : Bor (List ℕ) → List ℕ
characters text = chars text.now

-- what stands behind a word, where there is a space
abbrev pub rest_of : Option (Bor (List ℕ)) → Option (List ℕ)
rest_of rest = option_map characters rest

abbrev pub words_in : Words → spec.Words
words_in words = record { first = characters words.first; rest = rest_of words.rest }

-- ---- Commands

abbrev pub name_of : DocumentName → spec.DocumentName
name_of Source = spec.SourceName
name_of (Module name) = spec.ModuleName name

-- a document and a path, and what stands behind them
abbrev pub target_in : Target → spec.Target
target_in target = record { document = name_of target.document; path = target.path; rest = rest_of target.rest }

-- what a command asks
abbrev pub asked_of : Command → Request
asked_of (SetSource body) = spec.SetSource body.items
asked_of (SetModule name body) = spec.SetModule name body.items
asked_of (DropModule name) = spec.DropModule name
asked_of Show = spec.Show
asked_of (Dump document) = spec.Dump (name_of document)
asked_of Write = spec.Write
asked_of (SetParameter name value) = spec.SetParameter name value
asked_of Messages = spec.Messages
asked_of Statistics = spec.Statistics
asked_of Begin = spec.Begin
asked_of Commit = spec.Commit
asked_of Abandon = spec.Abandon
asked_of (Insert document path body) = spec.Insert (name_of document) path body.items
asked_of (Delete document path) = spec.Delete (name_of document) path
asked_of (SetText document path value) = spec.SetText (name_of document) path value
asked_of (SetAttribute document path name value) = spec.SetAttribute (name_of document) path name value
asked_of (RemoveAttribute document path name) = spec.RemoveAttribute (name_of document) path name
asked_of (Rename document path name) = spec.Rename (name_of document) path name
asked_of (Move document path other) = spec.Move (name_of document) path other

-- the call gives the defined answer, a command or the number of a refusal. Want of memory is free
abbrev pub Reads : Result Command WireFault → Result Request ℕ → Type 0
Reads (Ok command) answer = answer ≡ Ok (asked_of command)
Reads (Err variant.Memory) answer = Unit {0}
Reads (Err variant.NotUtf8) answer = answer ≡ Err 2
Reads (Err variant.UnknownCommand) answer = answer ≡ Err 3
Reads (Err variant.BadArguments) answer = answer ≡ Err 4

-- the same where the word is a command: what its arguments ask, or that they do not have its form
abbrev pub HasForm : Result Command WireFault → Option Request → Type 0
HasForm result asked = Reads result (or_number asked 4)

-- the call gives this document and path, or that the arguments do not have the form. Want of memory is free
abbrev pub FindsTarget : Result Target WireFault → Option spec.Target → Type 0
FindsTarget (Ok target) found = Some (target_in target) ≡ found
FindsTarget (Err variant.Memory) found = Unit {0}
FindsTarget (Err variant.BadArguments) found = None ≡ found
FindsTarget (Err variant.NotUtf8) found = ⊥
FindsTarget (Err variant.UnknownCommand) found = ⊥

abbrev pub code_of_fault : WireFault → EditCode
code_of_fault variant.Memory = edit.Memory
code_of_fault variant.NotUtf8 = edit.NotUtf8
code_of_fault variant.UnknownCommand = edit.UnknownCommand
code_of_fault variant.BadArguments = edit.BadArguments

-- ---- Replies

abbrev pub place_of : Place → stylesheet.Place
place_of place = record { module_name = place.«module»; path = place.path }

abbrev pub refusal_of : Refusal → outcome.Refusal
refusal_of why = record { code = why.code; place = place_of why.place }

abbrev pub reply_of : Reply → written.Reply
reply_of OkDone = written.OkDone
reply_of (OkRefused why) = written.OkRefused (refusal_of why)
reply_of OkPending = written.OkPending
reply_of OkDropped = written.OkDropped
reply_of (Refused why) = written.Refused (refusal_of why)
reply_of (Shown lines) = written.Shown lines.items
reply_of (Written text) = written.Written text
reply_of (Counted ran asked did) = written.Counted ran asked did
reply_of (No code) = written.No (edit_number code)
