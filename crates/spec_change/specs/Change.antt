-- What an edit of a document changes for work that was done on it: at which node, and the numbers of nodes that go and come.
--     change_of     the change that an edit makes between the document before and the document after
use Rattle.std.specs.Prelude.{ℕ, ◌≡◌, ◌∷◌, ◌==◌, Bool, true, false, not, nat_lt, nat_le, List, [], Option, None, Some, Ok, IsTrue, if◌then◌else◌}
use Rattle.std.specs.List.{list_all, list_any, filter}
use Rattle.std.specs.Option.{option_map, option_and_then}
use Rattle.spec_document.specs.Forest.{Forest, Empty, Node, Document, labels}
use Rattle.spec_document.specs.Place.{Found, child_at, node_at, root_of}
use Rattle.spec_edit.specs.Splice.{spot_of}
use Rattle.spec_edit.specs.Edit.{Edit, Insert, Delete, SetText, SetAttribute, RemoveAttribute, Rename, Edited, edited_nodes, makes_anew}
use Rattle.spec_edit.specs.Judged.{path_of}

-- of one node: its attributes, or which children it has and what these are
pub record Change : Type 0 where
  pub of_attributes : Bool
  -- the number of the node, and the numbers of those above it, the root first
  pub node : ℕ
  pub above : List ℕ
  -- the numbers of its children
  pub before : List ℕ
  pub after : List ℕ
  -- the numbers of nodes below it that are there no more, as they were removed, made anew or joined to another text, and of those that were put in
  -- or made anew, both in document order
  pub gone : List ℕ
  pub brought : List ℕ

-- whether the element stays with other attributes. Where these say how what is below is read, it is made anew
abbrev pub changes_attributes : Edit → Bool
changes_attributes (Insert path body) = false
changes_attributes (Delete path) = false
changes_attributes (SetText path value) = false
changes_attributes (SetAttribute path name value) = not (makes_anew name)
changes_attributes (RemoveAttribute path name) = not (makes_anew name)
changes_attributes (Rename path name) = false

-- the way to the node that changes: to the element itself, or to the parent
abbrev pub changed_path : Edit → Option (List ℕ)
changed_path edit = if changes_attributes edit then Some (path_of edit) else option_map (λ spot. spot.above) (spot_of (path_of edit))

-- the numbers of the nodes that are passed on the way from a node, itself first, without the one that the way leads to
abbrev pub passed_below : (Found ℕ → List ℕ) → Option (Found ℕ) → List ℕ
passed_below more None = []
passed_below more (Some child) = more child

abbrev pub passed : List ℕ → Found ℕ → List ℕ
passed [] node = []
passed (position ∷ positions) node = node.label ∷ passed_below (passed positions) (child_at node.above node.children position)

-- the labels of siblings, without what is below them
abbrev pub sibling_labels : {L : Type 0} → Forest L → List L
sibling_labels Empty = []
sibling_labels (Node label content children siblings) = label ∷ sibling_labels siblings

abbrev pub is_among : List ℕ → ℕ → Bool
is_among numbers number = list_any (λ n. n == number) numbers

-- those that are not among the others
abbrev pub without : (others numbers : List ℕ) → List ℕ
without others numbers = filter (λ number. not (is_among others number)) numbers

abbrev pub change_between : Bool → (above : List ℕ) → (old new : Found ℕ) → Change
change_between of_attributes above old new = record {
  of_attributes = of_attributes;
  node = old.label;
  above = above;
  before = sibling_labels old.children;
  after = sibling_labels new.children;
  gone = without (labels new.children) (labels old.children);
  brought = without (labels old.children) (labels new.children);
}

abbrev pub change_at : Bool → (old new : Document ℕ) → List ℕ → Option Change
change_at of_attributes old new path =
    option_and_then (λ was. option_map (change_between of_attributes (passed path (root_of old)) was) (node_at new path)) (node_at old path)

-- none where the path leads nowhere
abbrev pub change_of : Edit → (old new : Document ℕ) → Option Change
change_of edit old new = option_and_then (change_at (changes_attributes edit) old new) (changed_path edit)

-- the new document is what the edit makes of the old one, where what is made has numbers above all of the old one
pub record IsEdit (edit : Edit) (old new : Document ℕ) : Type 0 where
  pub first : ℕ
  pub below : IsTrue (list_all (λ n. nat_lt n first) (old.root ∷ labels old.nodes))
  pub edited : Edited ℕ
  pub edited_is : edited_nodes first edit old ≡ Ok edited
  pub new_is : new ≡ record { root = old.root; nodes = edited.nodes }

-- of the numbers of the old document those that are gone are not in the new one, and all others are; of those of the new one exactly what was
-- brought is not of the old one, and has numbers from the first on
pub record SaysWhatIsGone (first : ℕ) (old new : Document ℕ) (change : Change) : Type 0 where
  pub stays : (n : ℕ) → is_among (old.root ∷ labels old.nodes) n ≡ true → is_among (new.root ∷ labels new.nodes) n ≡ not (is_among change.gone n)
  pub comes : (n : ℕ) → is_among (new.root ∷ labels new.nodes) n ≡ true → is_among (old.root ∷ labels old.nodes) n ≡ not (is_among change.brought n)
  pub fresh : IsTrue (list_all (λ n. nat_le first n) change.brought)
