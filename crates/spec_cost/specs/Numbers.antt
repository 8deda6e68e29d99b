-- The documents with the numbers of their nodes. An edit keeps the numbers of all nodes but those that it makes; so by its number a node is known
-- again, an element of a stylesheet too.
--     NumberedDocuments   the source and the modules
--     given_source, ..    what a change makes of them
use Rattle.std.specs.Prelude.{ℕ, List, Option, None, Some, Result, Ok, Err, bytes_eq, if◌then◌else◌}
use Rattle.std.specs.Option.{option_map}
use Rattle.spec_document.specs.Forest.{Document}
use Rattle.spec_document.specs.Fault.{Fault}
use Rattle.spec_edit.specs.Edit.{Edited}

-- the module of each name
abbrev pub NumberedModules : Type 0
NumberedModules = List ℕ → Option (Document ℕ)

pub record NumberedDocuments : Type 0 where
  pub source : Option (Document ℕ)
  pub modules : NumberedModules

abbrev pub no_numbers : NumberedDocuments
no_numbers = record { source = None; modules = λ name. None }

-- with this module of this name, in place of the one before, or without it
abbrev pub with_one : List ℕ → Option (Document ℕ) → NumberedModules → NumberedModules
with_one name document modules = λ other. if bytes_eq other name then document else modules other

-- with this source, or with this module or none
abbrev pub with_source : Document ℕ → NumberedDocuments → NumberedDocuments
with_source document before = record { source = Some document; modules = before.modules }

abbrev pub with_module : List ℕ → Option (Document ℕ) → NumberedDocuments → NumberedDocuments
with_module name document before = record { source = before.source; modules = with_one name document before.modules }

-- ---- What a change makes of them

-- the document of lines becomes the source, or the module of this name, where they are one
abbrev pub given_source : Result (Document ℕ) Fault → NumberedDocuments → NumberedDocuments
given_source (Ok document) before = with_source document before
given_source (Err fault) before = before

abbrev pub given_module : List ℕ → Result (Document ℕ) Fault → NumberedDocuments → NumberedDocuments
given_module name (Ok document) before = with_module name (Some document) before
given_module name (Err fault) before = before

-- there is no module of this name any more
abbrev pub dropped_module : List ℕ → NumberedDocuments → NumberedDocuments
dropped_module name before = with_module name None before

-- a document with other nodes below its root, where it is edited
abbrev pub with_nodes : Result (Edited ℕ) Fault → Document ℕ → Document ℕ
with_nodes (Ok edited) before = record { root = before.root; nodes = edited.nodes }
with_nodes (Err fault) before = before

-- as an edit makes it, where there is one
abbrev pub edited_if : (Document ℕ → Result (Edited ℕ) Fault) → Option (Document ℕ) → Option (Document ℕ)
edited_if edit before = option_map (λ document. with_nodes (edit document) document) before

-- the source is edited so, or the module of this name
abbrev pub edited_source : (Document ℕ → Result (Edited ℕ) Fault) → NumberedDocuments → NumberedDocuments
edited_source edit before = record { source = edited_if edit before.source; modules = before.modules }

abbrev pub edited_module : List ℕ → (Document ℕ → Result (Edited ℕ) Fault) → NumberedDocuments → NumberedDocuments
edited_module name edit before = with_module name (edited_if edit (before.modules name)) before
