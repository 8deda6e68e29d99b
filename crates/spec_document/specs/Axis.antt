-- Axes (XPath 1.0, section 2.2): which places stand on an axis of a place, by how their ways go on from one another and by order.
use Rattle.std.specs.Prelude.{Bool, true, false, not, ◌&&◌, ◌||◌, List, [], ◌∷◌, Option, None, Some, is_some, reverse, if◌then◌else◌}
use Rattle.std.specs.Ordering.{is_eq, is_lt}
use Rattle.spec_document.specs.declared.axis.Axis.{Axis}
use Rattle.spec_document.specs.declared.axis.Axis.TheVariants.{Ancestor, AncestorOrSelf, Attribute, Child, Descendant, DescendantOrSelf, Following, FollowingSibling, Namespace, Parent, Preceding, PrecedingSibling, Itself}
use Rattle.spec_document.specs.Order.{Way, ToNamespace, ToAttribute, ToChild, way_cmp, precedes}

-- how the second way goes on after the first, where it begins with it
abbrev pub rest_after : List Way → List Way → Option (List Way)
rest_after [] q = Some q
rest_after (a ∷ p) [] = None
rest_after (a ∷ p) (b ∷ q) = if is_eq (way_cmp a b) then rest_after p q else None

abbrev pub begins_with : List Way → List Way → Bool
begins_with q p = is_some (rest_after p q)

-- a way to a node of the tree: to no attribute and no namespace node
abbrev pub is_in_tree : List Way → Bool
is_in_tree [] = true
is_in_tree (ToNamespace prefix ∷ p) = false
is_in_tree (ToAttribute number ∷ p) = false
is_in_tree (ToChild position ∷ p) = is_in_tree p

-- nothing more; one step more, to a child, to an attribute, to a namespace node, to any of them
abbrev pub is_end : Option (List Way) → Bool
is_end (Some []) = true
is_end _ = false

abbrev pub is_child_step : Option (List Way) → Bool
is_child_step (Some (ToChild position ∷ [])) = true
is_child_step _ = false

abbrev pub is_attribute_step : Option (List Way) → Bool
is_attribute_step (Some (ToAttribute number ∷ [])) = true
is_attribute_step _ = false

abbrev pub is_namespace_step : Option (List Way) → Bool
is_namespace_step (Some (ToNamespace prefix ∷ [])) = true
is_namespace_step _ = false

abbrev pub is_step : Option (List Way) → Bool
is_step (Some (way ∷ [])) = true
is_step _ = false

-- at least one step more
abbrev pub is_longer : Option (List Way) → Bool
is_longer (Some (way ∷ more)) = true
is_longer _ = false

-- the same parent, and the second child comes after the first
abbrev pub is_later_child : List Way → List Way → Bool
is_later_child (ToChild m ∷ []) (ToChild n ∷ []) = is_lt (way_cmp (ToChild m) (ToChild n))
is_later_child (a ∷ b ∷ p) (c ∷ d ∷ q) = is_eq (way_cmp a c) && is_later_child (b ∷ p) (d ∷ q)
is_later_child _ _ = false

-- whether the second place stands on this axis of the first
abbrev pub is_on : Axis → List Way → List Way → Bool
is_on Itself p q = is_end (rest_after p q)
is_on Child p q = is_child_step (rest_after p q)
is_on Attribute p q = is_attribute_step (rest_after p q)
is_on Namespace p q = is_namespace_step (rest_after p q)
is_on Parent p q = is_step (rest_after q p)
is_on Descendant p q = is_longer (rest_after p q) && is_in_tree q
is_on DescendantOrSelf p q = is_end (rest_after p q) || (is_longer (rest_after p q) && is_in_tree q)
is_on Ancestor p q = is_longer (rest_after q p)
is_on AncestorOrSelf p q = is_some (rest_after q p)
is_on Following p q = precedes p q && not (begins_with q p) && is_in_tree q
is_on Preceding p q = precedes q p && not (begins_with p q) && is_in_tree q
is_on FollowingSibling p q = is_later_child p q
is_on PrecedingSibling p q = is_later_child q p

-- the axes whose nodes are counted in reverse document order
abbrev pub is_reverse : Axis → Bool
is_reverse Ancestor = true
is_reverse AncestorOrSelf = true
is_reverse Preceding = true
is_reverse PrecedingSibling = true
is_reverse Itself = false
is_reverse Child = false
is_reverse Attribute = false
is_reverse Namespace = false
is_reverse Parent = false
is_reverse Descendant = false
is_reverse DescendantOrSelf = false
is_reverse Following = false
is_reverse FollowingSibling = false

-- nodes in document order, in the order of an axis
abbrev pub in_axis_order : {A : Type 0} → Axis → List A → List A
in_axis_order axis nodes = if is_reverse axis then reverse nodes else nodes
