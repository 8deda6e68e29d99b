-- What a node keeps through an edit, where it keeps its number.
use Rattle.std.specs.Prelude.{ℕ, ◌≡◌, List, ◌++◌, Some}
use Rattle.spec_document.specs.Forest.{Text, Document}
use Rattle.spec_document.specs.Place.{Found, node_at, kind_by, name_by, scope_at}
use Rattle.spec_edit.specs.Edit.{Edit}
use Rattle.spec_edit.specs.Judged.{path_of}

-- its content, unless it is the node that the edit speaks of, or a text that the next one was joined to
pub data KeepsContent {L : Type 0} (document : Document L) (edit : Edit) (old new : Found L) : Type 0 where
  is_same : new.content ≡ old.content → KeepsContent document edit old new
  is_spoken_of : node_at document (path_of edit) ≡ Some old → KeepsContent document edit old new
  is_joined : (text more : List ℕ) → old.content ≡ Some (Text text) → new.content ≡ Some (Text (text ++ more)) → KeepsContent document edit old new

-- its kind and its expanded name in any case
pub record Keeps {L : Type 0} (document : Document L) (edit : Edit) (old new : Found L) : Type 0 where
  pub kind : kind_by new.content ≡ kind_by old.content
  pub name : name_by new.content (scope_at new) ≡ name_by old.content (scope_at old)
  pub content : KeepsContent document edit old new
