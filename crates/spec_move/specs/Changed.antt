-- What a move of a node changes.
--     move_change      the change that a move makes between the document before and the document after
use Rattle.std.specs.Prelude.{ℕ, ◌≡◌, ◌∷◌, ◌-◌, false, nat_lt, List, Option, Ok, IsTrue, if◌then◌else◌}
use Rattle.std.specs.List.{list_all}
use Rattle.std.specs.Option.{option_map, option_and_then}
use Rattle.spec_document.specs.Forest.{Document, labels}
use Rattle.spec_document.specs.Place.{Found, node_at}
use Rattle.spec_edit.specs.Edit.{Edited}
use Rattle.spec_edit.specs.Splice.{Spot, spot_of, children_changed, deleted}
use Rattle.spec_change.specs.Change.{Change, change_at}
use Rattle.spec_move.specs.Move.{is_path, path_without, moved_nodes}

-- each change is one of children
pub data MoveChange : Type 0 where
  -- the children of one node stand in another order
  in_order : (change : Change) → MoveChange
  -- the children of a node that the moved node leaves, and then those of the node that it comes to
  between : (left entered : Change) → MoveChange

-- the document once the node is taken away
abbrev pub document_without : Spot → Document ℕ → Document ℕ
document_without spot document =
    record { root = document.root; nodes = children_changed (deleted (spot.position - 1)) spot.above document.nodes }

-- by the parent before
abbrev pub changes_between : (from to : Spot) → (old new : Document ℕ) → Found ℕ → Option MoveChange
changes_between from to old new parent =
    option_and_then (λ left. option_map (between left) (change_at false (document_without from old) new (path_without from parent to.above)))
    (change_at false old (document_without from old) from.above)

abbrev pub change_by : (from to : Spot) → (old new : Document ℕ) → Option MoveChange
change_by from to old new =
    if is_path from.above to.above then option_map in_order (change_at false old new from.above)
    else option_and_then (changes_between from to old new) (node_at old from.above)

-- none where a path leads nowhere
abbrev pub move_change : (path other : List ℕ) → (old new : Document ℕ) → Option MoveChange
move_change path other old new = option_and_then (λ from. option_and_then (λ to. change_by from to old new) (spot_of other)) (spot_of path)

-- the new document is what the move makes of the old one, where what is made has numbers above all of the old one
pub record IsMove (path other : List ℕ) (old new : Document ℕ) : Type 0 where
  pub first : ℕ
  pub below : IsTrue (list_all (λ n. nat_lt n first) (old.root ∷ labels old.nodes))
  pub edited : Edited ℕ
  pub edited_is : moved_nodes first path other old ≡ Ok edited
  pub new_is : new ≡ record { root = old.root; nodes = edited.nodes }
