-- What is told of many questions by a few bounds of the numbers of nodes, and which of them a change cannot mark.
--     Covers      whether a question is one of those
--     AreCovered  whether all that the one covers is covered by the other
--     IsApart     whether an edit of the source changes nothing within the bounds
use Rattle.std.specs.Prelude.{ℕ, ◌≡◌, ◌&&◌, Bool, true, false, List, [], ◌∷◌, ◌++◌, nat_le, ⊤}
use Rattle.std.specs.List.{All}
use Rattle.spec_change.specs.Change.{Change, is_among}
use Rattle.spec_document.specs.declared.axis.Axis.{Axis}
use Rattle.spec_document.specs.declared.axis.Axis.TheVariants as axis
use Rattle.spec_meaning.specs.Question.{Question, Step, Text, Name, Place, Order, Key, Choice, Copy, Unit, External}
use Rattle.spec_node.specs.declared.node_ref.NodeRef.{NodeRef}
use Rattle.spec_touch.specs.Touched.{is_itself}
use Rattle.xt_touch.specs.declared.named.Bounds.{Bounds}
use Rattle.xt_touch.specs.declared.named.Named.{Named}

abbrev pub is_within : Bounds → ℕ → Bool
is_within bounds number = nat_le bounds.lowest number && nat_le number bounds.highest

-- ---- Which questions are covered

-- a node is named among all; one that is an attribute or a namespace node near its element, too
pub record CoversNode (named : Named) (node : NodeRef) : Type 0 where
  pub all : is_within named.all node.node.number ≡ true
  pub near : is_itself node.part ≡ false → is_within named.near node.node.number ≡ true

-- along an axis: near the node are its children, attributes and siblings, inside it all that is below, and anywhere what precedes and follows. What is
-- above a node is another only where the node itself is
abbrev pub CoversStep : Named → Axis → (number : ℕ) → Type 0
CoversStep named axis.Child number = is_within named.near number ≡ true
CoversStep named axis.Attribute number = is_within named.near number ≡ true
CoversStep named axis.FollowingSibling number = is_within named.near number ≡ true
CoversStep named axis.PrecedingSibling number = is_within named.near number ≡ true
CoversStep named axis.Descendant number = is_within named.inside number ≡ true
CoversStep named axis.DescendantOrSelf number = is_within named.inside number ≡ true
CoversStep named axis.Following number = named.anywhere ≡ true
CoversStep named axis.Preceding number = named.anywhere ≡ true
CoversStep named axis.Itself number = ⊤
CoversStep named axis.Parent number = ⊤
CoversStep named axis.Ancestor number = ⊤
CoversStep named axis.AncestorOrSelf number = ⊤
CoversStep named axis.Namespace number = ⊤

abbrev pub Covers : Named → Question NodeRef → Type 0
Covers named (Step node axis test) = CoversNode named node × CoversStep named axis node.node.number
Covers named (Text node) = CoversNode named node × (is_within named.inside node.node.number ≡ true)
Covers named (Name node) = CoversNode named node
Covers named (Place node) = CoversNode named node × (named.anywhere ≡ true)
Covers named (Order nodes) = All (CoversNode named) nodes
Covers named (Key name value) = named.anywhere ≡ true
Covers named (Choice node mode candidates) = CoversNode named node × (named.chooses ≡ true)
Covers named (Copy node) = CoversNode named node × (is_within named.inside node.node.number ≡ true)
Covers named (Unit element) = ⊤
Covers named (External name) = named.external ≡ true

abbrev pub AreCovered : (before after : Named) → Type 0
AreCovered before after = (question : Question NodeRef) → Covers before question → Covers after question

-- ---- Bounds and lists of numbers

abbrev pub LieWithin : List ℕ → Bounds → Type 0
LieWithin numbers bounds = (number : ℕ) → is_among numbers number ≡ true → is_within bounds number ≡ true

abbrev pub LieOutside : List ℕ → Bounds → Type 0
LieOutside numbers bounds = (number : ℕ) → is_within bounds number ≡ true → is_among numbers number ≡ false

-- ---- What an edit leaves alone

-- no node within the bounds goes or comes; near those within is not the node whose children or attributes change, nor a child of it; and it is below
-- none of those within
pub record IsAround (change : Change) (named : Named) : Type 0 where
  pub moving : LieOutside (change.gone ++ change.brought) named.all
  pub node_near : LieOutside (change.node ∷ []) named.near
  pub children_near : LieOutside (change.before ++ change.after) named.near
  pub holding_inside : LieOutside (change.node ∷ change.above) named.inside

-- and all below those within is as it was, where these are the children that may be others
pub record IsApart (loose : List ℕ) (change : Change) (named : Named) : Type 0 where
  pub around : IsAround change named
  pub loose_inside : LieOutside loose named.inside
