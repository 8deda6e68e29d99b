-- Which questions a move marks. A node that moves to another parent goes from the one and comes to the other. But unless it is made anew, it and
-- all below it are the same nodes with the same namespaces in scope: what is asked of them alone has the answer that it had.
use Rattle.std.specs.Prelude.{Bool, true, false, not, ◌&&◌, ◌||◌}
use Rattle.spec_document.specs.declared.axis.Axis.{Axis}
use Rattle.spec_document.specs.declared.axis.Axis.TheVariants as axis
use Rattle.spec_meaning.specs.Question.{Question, Step, Text, Name, Place, Order, Key, Choice, Copy, Unit, External}
use Rattle.spec_change.specs.Change.{Change}
use Rattle.spec_move.specs.Changed.{MoveChange, in_order, between}
use Rattle.spec_node.specs.declared.node_ref.NodeRef.{NodeRef}
use Rattle.spec_touch.specs.Touched.{goes_or_comes, is_child, is_touched}

abbrev pub asks_order : Question NodeRef → Bool
asks_order (Step node axis test) = false
asks_order (Text node) = false
asks_order (Name node) = false
asks_order (Place node) = false
asks_order (Order nodes) = true
asks_order (Key name value) = false
asks_order (Choice node mode candidates) = false
asks_order (Copy node) = false
asks_order (Unit element) = false
asks_order (External name) = false

-- ---- To another parent

-- the moved node or one below it, which keeps its number: it goes with the one change and comes with the other
abbrev pub goes_along : (left entered : Change) → NodeRef → Bool
goes_along left entered node = goes_or_comes left node && goes_or_comes entered node

-- whether a node that goes along finds on an axis what it found: what is below it, and where it is not the moved node, which was a child of the node
-- that it leaves, its siblings
abbrev pub stays_along : Axis → (moved : Bool) → Bool
stays_along axis.Itself moved = true
stays_along axis.Child moved = true
stays_along axis.Descendant moved = true
stays_along axis.DescendantOrSelf moved = true
stays_along axis.Attribute moved = true
stays_along axis.Namespace moved = true
stays_along axis.FollowingSibling moved = not moved
stays_along axis.PrecedingSibling moved = not moved
stays_along axis.Following moved = false
stays_along axis.Preceding moved = false
stays_along axis.Parent moved = false
stays_along axis.Ancestor moved = false
stays_along axis.AncestorOrSelf moved = false

-- what such a node is asked and answers as before. A text that is the moved node may have become one with another
abbrev pub stays_in_move : (left entered : Change) → Question NodeRef → Bool
stays_in_move left entered (Step node axis test) = goes_along left entered node && stays_along axis (is_child left node)
stays_in_move left entered (Text node) = goes_along left entered node && not (is_child left node)
stays_in_move left entered (Name node) = goes_along left entered node
stays_in_move left entered (Place node) = false
stays_in_move left entered (Order nodes) = false
stays_in_move left entered (Key name value) = false
stays_in_move left entered (Choice node mode candidates) = false
stays_in_move left entered (Copy node) = goes_along left entered node && not (is_child left node)
stays_in_move left entered (Unit element) = false
stays_in_move left entered (External name) = false

abbrev pub move_touched : MoveChange → Question NodeRef → Bool
move_touched (in_order change) question = asks_order question || is_touched change question
move_touched (between left entered) question = (is_touched left question || is_touched entered question) && not (stays_in_move left entered question)
