-- What a node keeps through a move, where it keeps its number.
use Rattle.std.specs.Prelude.{ℕ, ◌≡◌, List, ◌++◌, Some}
use Rattle.spec_document.specs.Forest.{Text}
use Rattle.spec_document.specs.Place.{Found, kind_by, name_by, scope_at}
use Rattle.spec_move.specs.Move.{preserves}

-- its content, unless it is a text that another was joined to
pub data KeepsContent {L : Type 0} (old new : Found L) : Type 0 where
  is_same : new.content ≡ old.content → KeepsContent old new
  is_joined : (text more : List ℕ) → old.content ≡ Some (Text text) → new.content ≡ Some (Text (text ++ more)) → KeepsContent old new

-- its kind, its expanded name, the namespaces in scope and whether white space counts inside it
pub record Keeps {L : Type 0} (old new : Found L) : Type 0 where
  pub kind : kind_by new.content ≡ kind_by old.content
  pub name : name_by new.content (scope_at new) ≡ name_by old.content (scope_at old)
  pub scope : scope_at new ≡ scope_at old
  pub space : preserves new.above ≡ preserves old.above
  pub content : KeepsContent old new
