-- Which questions a change of the source marks. A question that is not marked has the same true answer before the change and after it.
--     is_touched     whether a change of a node's children or of its attributes marks a question
--     touched_but    the same, where of the children that stay only these may have become others
use Rattle.std.specs.Prelude.{ℕ, ◌==◌, Bool, true, false, ◌&&◌, ◌||◌, List, [], ◌∷◌, ◌++◌, if◌then◌else◌}
use Rattle.std.specs.List.{list_any}
use Rattle.spec_document.specs.declared.axis.Axis.{Axis}
use Rattle.spec_document.specs.declared.axis.Axis.TheVariants as axis
use Rattle.spec_meaning.specs.Question.{Question, Step, Text, Name, Place, Order, Key, Choice, Copy, Unit, External}
use Rattle.spec_change.specs.Change.{Change, is_among}
use Rattle.spec_node.specs.declared.node_ref.NodeRef.{NodeRef}
use Rattle.spec_node.specs.declared.node_ref.Part.{Part}
use Rattle.spec_node.specs.declared.node_ref.Part.TheVariants as part

-- a node of the tree, and no attribute or namespace node of it
abbrev pub is_itself : Part → Bool
is_itself part.Itself = true
is_itself (part.Attribute number) = false
is_itself (part.Namespace number) = false

abbrev pub is_attribute : Part → Bool
is_attribute part.Itself = false
is_attribute (part.Attribute number) = true
is_attribute (part.Namespace number) = false

-- one of the nodes of the tree that have these numbers
abbrev pub is_one_of : List ℕ → NodeRef → Bool
is_one_of numbers node = is_itself node.part && is_among numbers node.node.number

-- a node that goes or comes, or an attribute or a namespace node of such a one; where attributes of an element change, each attribute of it
abbrev pub goes_or_comes : Change → NodeRef → Bool
goes_or_comes change node =
    is_among change.gone node.node.number
    || is_among change.brought node.node.number
    || (change.of_attributes && is_attribute node.part && (node.node.number == change.node))

-- the node of the change itself; it or a node above it; a child of it, before the change or after it
abbrev pub is_changed : Change → NodeRef → Bool
is_changed change node = is_one_of (change.node ∷ []) node

abbrev pub holds_change : Change → NodeRef → Bool
holds_change change node = is_one_of (change.node ∷ change.above) node

abbrev pub is_child : Change → NodeRef → Bool
is_child change node = is_one_of (change.before ++ change.after) node

-- ---- Where children of the node change

-- what stands before or after a node anywhere in the document is not followed up
abbrev pub step_by_children : Change → Axis → NodeRef → Bool
step_by_children change axis.Child node = is_changed change node
step_by_children change axis.Descendant node = holds_change change node
step_by_children change axis.DescendantOrSelf node = holds_change change node
step_by_children change axis.FollowingSibling node = is_child change node
step_by_children change axis.PrecedingSibling node = is_child change node
step_by_children change axis.Following node = true
step_by_children change axis.Preceding node = true
step_by_children change axis.Itself node = false
step_by_children change axis.Parent node = false
step_by_children change axis.Ancestor node = false
step_by_children change axis.AncestorOrSelf node = false
step_by_children change axis.Attribute node = false
step_by_children change axis.Namespace node = false

-- what is below the node has changed, or a text that is a child of the node is another. It may be one of these
abbrev pub inside_but : (loose : List ℕ) → Change → NodeRef → Bool
inside_but loose change node = holds_change change node || is_one_of loose node

abbrev pub inside_by_children : Change → NodeRef → Bool
inside_by_children change node = inside_but (change.before ++ change.after) change node

abbrev pub by_children_but : (loose : List ℕ) → Change → Question NodeRef → Bool
by_children_but loose change (Step node axis test) = goes_or_comes change node || step_by_children change axis node
by_children_but loose change (Text node) = goes_or_comes change node || inside_but loose change node
by_children_but loose change (Name node) = goes_or_comes change node
by_children_but loose change (Place node) = true
by_children_but loose change (Order nodes) = list_any (goes_or_comes change) nodes
by_children_but loose change (Key name value) = true
by_children_but loose change (Choice node mode candidates) = true
by_children_but loose change (Copy node) = goes_or_comes change node || inside_but loose change node
by_children_but loose change (Unit element) = false
by_children_but loose change (External name) = false

-- by the table any child may be another
abbrev pub by_children : Change → Question NodeRef → Bool
by_children change question = by_children_but (change.before ++ change.after) change question

-- ---- Where attributes of the node change

abbrev pub step_by_attributes : Change → Axis → NodeRef → Bool
step_by_attributes change axis.Attribute node = is_changed change node
step_by_attributes change _ node = false

abbrev pub by_attributes : Change → Question NodeRef → Bool
by_attributes change (Step node axis test) = goes_or_comes change node || step_by_attributes change axis node
by_attributes change (Text node) = goes_or_comes change node
by_attributes change (Name node) = goes_or_comes change node
by_attributes change (Place node) = goes_or_comes change node
by_attributes change (Order nodes) = list_any (goes_or_comes change) nodes
by_attributes change (Key name value) = true
by_attributes change (Choice node mode candidates) = true
by_attributes change (Copy node) = goes_or_comes change node || holds_change change node
by_attributes change (Unit element) = false
by_attributes change (External name) = false

abbrev pub is_touched : Change → Question NodeRef → Bool
is_touched change question = if change.of_attributes then by_attributes change question else by_children change question

-- less than by the table: these are all children that stay and may be others
abbrev pub touched_but : (loose : List ℕ) → Change → Question NodeRef → Bool
touched_but loose change question = if change.of_attributes then by_attributes change question else by_children_but loose change question
