-- How many siblings are seen, and documents of which some siblings are others.
use Rattle.std.specs.Prelude.{ℕ, ◌≡◌, ◌+◌, ◌≤◌, ◌&&◌, Bool, true, not, if◌then◌else◌, List, Option}
use Rattle.std.specs.Option.{ForSome, option_map}
use Rattle.spec_document.specs.Forest.{Written, Content, Element, Text, Comment, Instruction, Forest, Empty, Node, Document}
use Rattle.spec_document.specs.Place.{node_at}
use Rattle.spec_edit.specs.Splice.{children_changed, later_siblings, replaced, sibling_count}
use Rattle.spec_seen.specs.Seen.{Around, around_in}
use Rattle.spec_structure.specs.Inside.{is_white}
use Rattle.spec_stylesheet.specs.Sheet.{SpaceRule}

-- whether a node of this content is seen among siblings that stand so
abbrev pub is_shown : Around → Content → Bool
is_shown around (Element name attributes) = true
is_shown around (Text text) = not (around.strips && is_white text)
is_shown around (Comment text) = true
is_shown around (Instruction target text) = true

abbrev pub one_shown : Around → Content → ℕ
one_shown around content = if is_shown around content then 1 else 0

abbrev pub shown_count : Around → Forest ℕ → ℕ
shown_count around Empty = 0
shown_count around (Node label content children siblings) = one_shown around content + shown_count around siblings

-- the second document is the first with others in place of the children from the index `from` up to, but not including, `to`, of the node that the
-- path leads to
pub record IsSpliced (path : List ℕ) (from to : ℕ) (old new : Document ℕ) : Type 0 where
  pub others : Forest ℕ
  pub is : new ≡ record { root = old.root; nodes = children_changed (replaced from to others) path old.nodes }
  pub within : ForSome (node_at old path) (λ node. from ≤ sibling_count node.children)

-- the children of the node that a path leads to
abbrev pub children_in : Document ℕ → List ℕ → Option (Forest ℕ)
children_in document path = option_map (λ node. node.children) (node_at document path)

-- the node at this position has another content afterwards, and its label
pub record IsKept (position : ℕ) (old new : Forest ℕ) (content : Content) : Type 0 where
  pub index : ℕ
  pub position_is : position ≡ index + 1
  pub label : ℕ
  pub own : Content
  pub was : Forest ℕ
  pub rest : Forest ℕ
  pub old_is : later_siblings index old ≡ Node label own was rest
  pub now : Forest ℕ
  pub behind : Forest ℕ
  pub new_is : later_siblings index new ≡ Node label content now behind

-- both are elements, inside which the namespaces and the treatment of white space are the same
pub record IsSameInside (rules : List SpaceRule) (around : Around) (old new : Content) : Type 0 where
  pub name : List ℕ
  pub attributes : List Written
  pub old_is : old ≡ Element name attributes
  pub own : List ℕ
  pub others : List Written
  pub new_is : new ≡ Element own others
  pub same : around_in rules around name attributes ≡ around_in rules around own others
