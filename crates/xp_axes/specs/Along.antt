-- The answer of an axis by the way to its node: at each level, what the axis takes of the siblings before, of the node on the way, and of the
-- siblings after.
use Rattle.std.specs.Prelude.{ℕ, ◌-◌, ◌==◌, Bool, true, false, List, [], ◌∷◌, ◌++◌, map, if◌then◌else◌}
use Rattle.spec_document.specs.declared.axis.Axis.{Axis}
use Rattle.spec_document.specs.declared.axis.Axis.TheVariants as axis
use Rattle.spec_document.specs.Forest.{Forest, Empty, Node, labels}
use Rattle.xt_tree.specs.View.{itself}
use Rattle.spec_node.specs.declared.node_ref.NodeRef.{NodeRef}
use Rattle.spec_node.specs.declared.node_ref.Part.{Part}
use Rattle.spec_node.specs.declared.node_ref.Part.TheVariants as part
use Rattle.xp_axes.specs.declared.extent.Extent.{Extent}
use Rattle.xp_axes.specs.declared.extent.Extent.TheVariants.{Nothing, Themselves, WithAllBelow}

-- of siblings before the node on the way, and after it; the way ends there, or goes on
abbrev pub before : Axis → Bool → Extent
before axis.Preceding is_end = WithAllBelow
before axis.PrecedingSibling is_end = if is_end then Themselves else Nothing
before _ is_end = Nothing

abbrev pub after : Axis → Bool → Extent
after axis.Following is_end = WithAllBelow
after axis.FollowingSibling is_end = if is_end then Themselves else Nothing
after _ is_end = Nothing

-- of the children of the node
abbrev pub below : Axis → Extent
below axis.Child = Themselves
below axis.Descendant = WithAllBelow
below axis.DescendantOrSelf = WithAllBelow
below _ = Nothing

-- of the children of the element whose attribute or namespace node it is
abbrev pub beside : Axis → Extent
beside axis.Following = WithAllBelow
beside _ = Nothing

-- whether the axis takes a node above; the way ends one step below it, or goes on
abbrev pub is_above : Axis → Bool → Bool
is_above axis.Ancestor is_end = true
is_above axis.AncestorOrSelf is_end = true
is_above axis.Parent is_end = is_end
is_above _ is_end = false

-- whether it takes the node itself
abbrev pub is_itself : Axis → Bool
is_itself axis.Itself = true
is_itself axis.AncestorOrSelf = true
is_itself axis.DescendantOrSelf = true
is_itself _ = false

-- whether it takes nothing but the node itself and what is below it, where it starts at a node of the tree
abbrev pub is_inner_axis : Axis → Bool
is_inner_axis axis.Itself = true
is_inner_axis axis.Child = true
is_inner_axis axis.Descendant = true
is_inner_axis axis.DescendantOrSelf = true
is_inner_axis _ = false

abbrev pub is_inner : Axis → Part → Bool
is_inner axis part.Itself = is_inner_axis axis
is_inner axis (part.Attribute number) = false
is_inner axis (part.Namespace number) = false

-- siblings themselves; siblings to an extent, and one of them
abbrev pub themselves : Forest ℕ → List NodeRef
themselves Empty = []
themselves (Node label content children siblings) = itself label ∷ themselves siblings

abbrev pub taken : Extent → Forest ℕ → List NodeRef
taken Nothing siblings = []
taken Themselves siblings = themselves siblings
taken WithAllBelow siblings = map itself (labels siblings)

abbrev pub taken_one : Extent → ℕ → Forest ℕ → List NodeRef
taken_one Nothing number children = []
taken_one Themselves number children = itself number ∷ []
taken_one WithAllBelow number children = itself number ∷ map itself (labels children)

abbrev pub if_taken : Bool → NodeRef → List NodeRef
if_taken is_taken node = if is_taken then node ∷ [] else []

-- the sibling at this index from 0, with what stands before and after it
abbrev pub around : (ℕ → Forest ℕ → List NodeRef) → Extent → Extent → ℕ → Forest ℕ → List NodeRef
around inner b a index Empty = []
around inner b a index (Node label content children siblings) =
    if index == 0 then inner label children ++ taken a siblings else taken_one b label children ++ around inner b a (index - 1) siblings

abbrev pub is_no_part : Part → Bool
is_no_part part.Itself = true
is_no_part (part.Attribute number) = false
is_no_part (part.Namespace number) = false

abbrev pub is_end : Part → List ℕ → Bool
is_end part [] = is_no_part part
is_end part (n ∷ ns) = false

-- at the node of the tree that the way leads to
abbrev pub ended : Axis → NodeRef → Part → ℕ → Forest ℕ → List NodeRef
ended axis node part.Itself number children = if_taken (is_itself axis) node ++ taken (below axis) children
ended axis node (part.Attribute n) number children = if_taken (is_above axis true) (itself number) ++ if_taken (is_itself axis) node ++ taken (beside axis) children
ended axis node (part.Namespace n) number children = if_taken (is_above axis true) (itself number) ++ if_taken (is_itself axis) node ++ taken (beside axis) children

-- of an axis, what stands at or below the node of the tree of this number, from which positions lead to a node of the tree that the way ends
-- at, or that has what it ends at; and what the axis takes there
abbrev pub along : Axis → Part → (ℕ → Forest ℕ → List NodeRef) → List ℕ → ℕ → Forest ℕ → List NodeRef
along axis part at_end [] number children = at_end number children
along axis part at_end (n ∷ ns) number children =
    if_taken (is_above axis (is_end part ns)) (itself number)
    ++ around (along axis part at_end ns) (before axis (is_end part ns)) (after axis (is_end part ns)) (n - 1) children

-- an axis that is walked for: the attributes and namespace nodes of a node of the tree are counted
abbrev pub IsWalked : Axis → Part → Type 0
IsWalked axis.Attribute part.Itself = ⊥
IsWalked axis.Namespace part.Itself = ⊥
IsWalked _ _ = Unit {0}
