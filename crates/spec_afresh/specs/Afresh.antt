-- A document and the lines that are written for it.
use Rattle.std.specs.Prelude.{ℕ, ◌≡◌, ◌+◌, ◌⊎◌, List, Some, map}
use Rattle.std.specs.Str.{encode_utf8_all}
use Rattle.spec_document.specs.Forest.{Forest, Document, Plain, lines_of, numbered}
use Rattle.spec_run.specs.Documents.{Documents}
use Rattle.spec_session.specs.Machine.{State, named_among}
use Rattle.spec_session.specs.Request.{DocumentName, SourceName, ModuleName, Request, SetSource, SetModule}

-- the lines that are written for these siblings, as the lines of a body: in UTF-8
abbrev pub body_of : {L : Type 0} → Forest L → List (List ℕ)
body_of nodes = map encode_utf8_all (lines_of nodes)

-- the document with these nodes below its root, numbered in document order from `first` on
abbrev pub document_from : {L : Type 0} → ℕ → Forest L → Document ℕ
document_from first nodes = record { root = first; nodes = numbered (first + 1) nodes }

-- that the document of this name is the one of a body
abbrev pub given_as : DocumentName → List (List ℕ) → Request
given_as SourceName body = SetSource body
given_as (ModuleName name) body = SetModule name body

-- under this name this document is held, among the present documents or, while a batch is open, among the pending ones
abbrev pub IsHeldIn : State → DocumentName → Plain → Type 0
IsHeldIn state name tree =
    (named_among state.documents name ≡ Some tree) ⊎ ((pending : Documents) × (state.pending ≡ Some pending) × (named_among pending name ≡ Some tree))
