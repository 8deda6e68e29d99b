-- The content of a node that is no element, with another text.
use Rattle.std.specs.Prelude.{ℕ, ◌-◌, List, [], ◌∷◌, Option, None, Some}
use Rattle.spec_document.specs.Forest.{Content, Element, Text, Comment, Instruction, Forest, Document}
use Rattle.spec_edit.specs.Splice.{Spot, children_changed, content_replaced, deleted}

-- none where the node goes: an emptied text
abbrev pub valued : Content → List ℕ → Option Content
valued (Element name attributes) value = None
valued (Text text) [] = None
valued (Text text) (c ∷ cs) = Some (Text (c ∷ cs))
valued (Comment text) value = Some (Comment value)
valued (Instruction target text) value = Some (Instruction target value)

-- the nodes below the root with this content there, or without the node
abbrev pub nodes_valued : Spot → Document ℕ → Option Content → Forest ℕ
nodes_valued spot document None = children_changed (deleted (spot.position - 1)) spot.above document.nodes
nodes_valued spot document (Some content) = children_changed (content_replaced spot.position content) spot.above document.nodes
