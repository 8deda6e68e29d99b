-- The numbers that an edit may take away.
use Rattle.std.specs.Prelude.{ℕ, Bool, true, false, List, [], ◌∷◌, Option, None, Some, if◌then◌else◌}
use Rattle.spec_document.specs.Forest.{Document, labels}
use Rattle.spec_document.specs.Place.{Found, node_at}
use Rattle.spec_edit.specs.Edit.{Edit, Insert, Delete, SetText, SetAttribute, RemoveAttribute, Rename, makes_anew}
use Rattle.spec_edit.specs.Judged.{path_of}

-- whether the node at the edit's path goes or is made anew, with all below it. Where a content is set, only a text can go
abbrev pub takes_away : Edit → Bool
takes_away (Insert path body) = false
takes_away (Delete path) = true
takes_away (SetText path value) = false
takes_away (SetAttribute path name value) = makes_anew name
takes_away (RemoveAttribute path name) = makes_anew name
takes_away (Rename path name) = true

-- the numbers of a node and of all below it
abbrev pub numbers_from : Option (Found ℕ) → List ℕ
numbers_from None = []
numbers_from (Some node) = node.label ∷ labels node.children

abbrev pub taken : Edit → Document ℕ → List ℕ
taken edit document = if takes_away edit then numbers_from (node_at document (path_of edit)) else []

-- whether a text may lose its number besides: where siblings come or go, texts that meet are one with the number of the first, and a text that is
-- empty goes
abbrev pub texts_may_go : Edit → Bool
texts_may_go (Insert path body) = true
texts_may_go (Delete path) = true
texts_may_go (SetText path []) = true
texts_may_go (SetText path (c ∷ cs)) = false
texts_may_go (SetAttribute path name value) = false
texts_may_go (RemoveAttribute path name) = false
texts_may_go (Rename path name) = false
