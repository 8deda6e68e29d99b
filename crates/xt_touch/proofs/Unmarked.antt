-- That a change of the source which is apart from what is named marks no question that is covered.
use Rattle.std.proofs.Common.{◌≡◌, ℕ, Bool, true, false, not, List, [], ◌∷◌, ◌++◌, Option, length, refl, sym, ap, ◌∙◌, arith}
use Rattle.std.specs.Prelude.{◌&&◌, ◌||◌, ◌==◌, if◌then◌else◌, All}
use Rattle.std.specs.List.{list_any}
use Rattle.std.proofs.lemmas.Bool.{and_left, and_right, eqb-true, false_from_ne_true, eq-eqb, or_from, both_ways}
use Rattle.std.proofs.lemmas.List.Elements.{All-head, All-tail}
use Rattle.spec_change.specs.Change.{Change, is_among}
use Rattle.spec_document.specs.Name.{Expanded}
use Rattle.spec_document.specs.declared.axis.Axis.{Axis}
use Rattle.spec_document.specs.declared.axis.Axis.TheVariants as axis
use Rattle.spec_meaning.specs.Question.{Question, Step, Text, Name, Place, Order, Key, Choice, Copy, Unit, External}
use Rattle.spec_node.specs.declared.node_ref.NodeRef.{NodeRef}
use Rattle.spec_node.specs.declared.node_ref.Part.{Part}
use Rattle.spec_node.specs.declared.node_ref.Part.TheVariants as part
use Rattle.spec_touch.specs.Marks.{SourceEdited, marks, asks, by_parameter}
use Rattle.spec_touch.specs.Plain.{is_mode_among, spared}
use Rattle.spec_touch.specs.Touched.{by_attributes, by_children_but, goes_or_comes, holds_change, inside_but, is_one_of, touched_but, is_attribute, is_changed, is_child, is_itself, is_touched, step_by_attributes, step_by_children}
use Rattle.xt_touch.specs.Named.{Covers, CoversNode, CoversStep, IsApart, IsAround, is_within}
use Rattle.xt_touch.specs.declared.named.Named.{Named}
use Rattle.xt_touch.proofs.Members.{among_append}

-- ---- A node that is covered

-- an attribute of another element than the one whose attributes change
other_attribute : (change : Change) (named : Named) → IsAround change named → (of : Bool) (n : ℕ) (p : Part)
    → (is_itself p ≡ false → is_within named.near n ≡ true) → (of && is_attribute p && (n == change.node)) ≡ false
other_attribute change named apart of n part.Itself near = and_left _ _ (and_right of false refl)
other_attribute change named apart of n (part.Namespace k) near = and_left _ _ (and_right of false refl)
other_attribute change named apart of n (part.Attribute k) near =
    and_right _ (n == change.node) (false_from_ne_true (n == change.node)
    (λ e. both_ways (is_among (change.node ∷ []) n) (apart.node_near n (near refl))
    (is_node (change.node == n) (eq-eqb change.node n (sym (eqb-true n change.node e))))))
  where
    is_node : (b : Bool) → b ≡ true → (b || false) ≡ true
    is_node b e = ap (λ t. t || false) e

not_moving : (change : Change) (named : Named) → IsAround change named → (node : NodeRef) → CoversNode named node
    → goes_or_comes change node ≡ false
not_moving change named apart node h =
    or_from (is_among change.gone node.node.number || is_among change.brought node.node.number) _
    (sym (among_append change.gone change.brought node.node.number) ∙ apart.moving node.node.number h.all)
    (other_attribute change named apart change.of_attributes node.node.number node.part h.near)

none_moving : (change : Change) (named : Named) → IsAround change named → (nodes : List NodeRef) → All (CoversNode named) nodes
    → list_any (goes_or_comes change) nodes ≡ false
none_moving change named apart [] h = refl
none_moving change named apart (x ∷ xs) h =
    or_from (goes_or_comes change x) (list_any (goes_or_comes change) xs)
    (not_moving change named apart x (All-head (CoversNode named) x xs h)) (none_moving change named apart xs (All-tail (CoversNode named) x xs h))

not_changed : (change : Change) (named : Named) → IsAround change named → (node : NodeRef) → is_within named.near node.node.number ≡ true
    → is_changed change node ≡ false
not_changed change named apart node h = and_right (is_itself node.part) _ (apart.node_near node.node.number h)

not_child_near : (change : Change) (named : Named) → IsAround change named → (node : NodeRef) → is_within named.near node.node.number ≡ true
    → is_child change node ≡ false
not_child_near change named apart node h = and_right (is_itself node.part) _ (apart.children_near node.node.number h)

not_holding : (change : Change) (named : Named) → IsAround change named → (node : NodeRef) → is_within named.inside node.node.number ≡ true
    → holds_change change node ≡ false
not_holding change named apart node h = and_right (is_itself node.part) _ (apart.holding_inside node.node.number h)

not_inside : (loose : List ℕ) (change : Change) (named : Named) → IsApart loose change named → (node : NodeRef)
    → is_within named.inside node.node.number ≡ true → inside_but loose change node ≡ false
not_inside loose change named apart node h =
    or_from (holds_change change node) (is_one_of loose node) (not_holding change named apart.around node h)
    (and_right (is_itself node.part) _ (apart.loose_inside node.node.number h))

-- ---- A step that is covered

no_step_by_children : (change : Change) (named : Named) → IsAround change named → named.anywhere ≡ false → (x : Axis) (node : NodeRef)
    → CoversStep named x node.node.number → step_by_children change x node ≡ false
no_step_by_children change named apart none axis.Child node h = not_changed change named apart node h
no_step_by_children change named apart none axis.Descendant node h = not_holding change named apart node h
no_step_by_children change named apart none axis.DescendantOrSelf node h = not_holding change named apart node h
no_step_by_children change named apart none axis.FollowingSibling node h = not_child_near change named apart node h
no_step_by_children change named apart none axis.PrecedingSibling node h = not_child_near change named apart node h
no_step_by_children change named apart none axis.Following node h = absurd (both_ways named.anywhere none h)
no_step_by_children change named apart none axis.Preceding node h = absurd (both_ways named.anywhere none h)
no_step_by_children change named apart none axis.Itself node h = refl
no_step_by_children change named apart none axis.Parent node h = refl
no_step_by_children change named apart none axis.Ancestor node h = refl
no_step_by_children change named apart none axis.AncestorOrSelf node h = refl
no_step_by_children change named apart none axis.Attribute node h = refl
no_step_by_children change named apart none axis.Namespace node h = refl

no_step_by_attributes : (change : Change) (named : Named) → IsAround change named → (x : Axis) (node : NodeRef)
    → CoversStep named x node.node.number → step_by_attributes change x node ≡ false
no_step_by_attributes change named apart axis.Attribute node h = not_changed change named apart node h
no_step_by_attributes change named apart axis.Child node h = refl
no_step_by_attributes change named apart axis.Descendant node h = refl
no_step_by_attributes change named apart axis.DescendantOrSelf node h = refl
no_step_by_attributes change named apart axis.FollowingSibling node h = refl
no_step_by_attributes change named apart axis.PrecedingSibling node h = refl
no_step_by_attributes change named apart axis.Following node h = refl
no_step_by_attributes change named apart axis.Preceding node h = refl
no_step_by_attributes change named apart axis.Itself node h = refl
no_step_by_attributes change named apart axis.Parent node h = refl
no_step_by_attributes change named apart axis.Ancestor node h = refl
no_step_by_attributes change named apart axis.AncestorOrSelf node h = refl
no_step_by_attributes change named apart axis.Namespace node h = refl

-- ---- A question that is covered

neither : (of a c s : Bool) → a ≡ false → c ≡ false → ((if of then a else c) && s) ≡ false
neither true a c s h k = and_left a s h
neither false a c s h k = and_left c s k

-- what is touched and not spared, where of the children that stay these may be others
abbrev Touches : (loose : List ℕ) → Change → (asking : List (Option Expanded)) → Question NodeRef → Bool
Touches loose change asking question = touched_but loose change question && not (spared asking change question)

-- where it is of attributes or of children, what is not touched is not marked
by_neither : (loose : List ℕ) (change : Change) (asking : List (Option Expanded)) (question : Question NodeRef)
    → by_attributes change question ≡ false → by_children_but loose change question ≡ false → Touches loose change asking question ≡ false
by_neither loose change asking question h k =
    neither change.of_attributes (by_attributes change question) (by_children_but loose change question) (not (spared asking change question)) h k

no_mode : (asking : List (Option Expanded)) → (length asking == 0) ≡ true → (mode : Option Expanded) → is_mode_among asking mode ≡ false
no_mode [] none mode = refl
no_mode (m ∷ asking) none mode = absurd (omega (arith, eqb-true (length (m ∷ asking)) 0 none))

-- a choice is spared for a node that stays, where its mode is none of these
choice_spared : (touched goes among : Bool) → goes ≡ false → among ≡ false → (touched && not (not goes && not among)) ≡ false
choice_spared touched goes among h k = and_right touched _ (λ i. not (not (h i) && not (k i)))

untouched : (loose : List ℕ) (change : Change) (asking : List (Option Expanded)) (named : Named) → IsApart loose change named → named.anywhere ≡ false
    → (named.chooses ≡ true → (length asking == 0) ≡ true)
    → (question : Question NodeRef) → Covers named question → Touches loose change asking question ≡ false
untouched loose change asking named apart none chosen (Step node x test) h =
    let stays = not_moving change named apart.around node h.0 in
    by_neither loose change asking (Step node x test)
    (or_from (goes_or_comes change node) (step_by_attributes change x node) stays (no_step_by_attributes change named apart.around x node h.1))
    (or_from (goes_or_comes change node) (step_by_children change x node) stays (no_step_by_children change named apart.around none x node h.1))
untouched loose change asking named apart none chosen (Text node) h =
    let stays = not_moving change named apart.around node h.0 in
    by_neither loose change asking (Text node) stays
    (or_from (goes_or_comes change node) (inside_but loose change node) stays (not_inside loose change named apart node h.1))
untouched loose change asking named apart none chosen (Name node) h =
    let stays = not_moving change named apart.around node h in
    by_neither loose change asking (Name node) stays stays
untouched loose change asking named apart none chosen (Place node) h = absurd (both_ways named.anywhere none h.1)
untouched loose change asking named apart none chosen (Order nodes) h =
    let stay = none_moving change named apart.around nodes h in
    by_neither loose change asking (Order nodes) stay stay
untouched loose change asking named apart none chosen (Key name value) h = absurd (both_ways named.anywhere none h)
untouched loose change asking named apart none chosen (Choice node mode candidates) h =
    choice_spared (touched_but loose change (Choice node mode candidates)) (goes_or_comes change node) (is_mode_among asking mode)
    (not_moving change named apart.around node h.0) (no_mode asking (chosen h.1) mode)
untouched loose change asking named apart none chosen (Copy node) h =
    let stays = not_moving change named apart.around node h.0 in
    by_neither loose change asking (Copy node)
    (or_from (goes_or_comes change node) (holds_change change node) stays (not_holding change named apart.around node h.1))
    (or_from (goes_or_comes change node) (inside_but loose change node) stays (not_inside loose change named apart node h.1))
untouched loose change asking named apart none chosen (Unit element) h = by_neither loose change asking (Unit element) refl refl
untouched loose change asking named apart none chosen (External name) h = by_neither loose change asking (External name) refl refl

-- by the table
pub unmarked : (change : Change) (asking : List (Option Expanded)) (named : Named) → IsApart (change.before ++ change.after) change named
    → named.anywhere ≡ false → (named.chooses ≡ true → (length asking == 0) ≡ true)
    → (loose : List ℕ) (question : Question NodeRef) → Covers named question → marks (SourceEdited change asking loose) question ≡ false
unmarked change asking named apart none chosen loose question h =
    untouched (change.before ++ change.after) change asking named apart none chosen question h

-- and less than by the table
pub unasked : (loose : List ℕ) (change : Change) (asking : List (Option Expanded)) (named : Named) → IsApart loose change named
    → named.anywhere ≡ false → (named.chooses ≡ true → (length asking == 0) ≡ true)
    → (question : Question NodeRef) → Covers named question → asks (SourceEdited change asking loose) question ≡ false
unasked loose change asking named apart none chosen question h =
    and_less (is_touched change question) (touched_but loose change question) (not (spared asking change question))
    (untouched loose change asking named apart none chosen question h)
  where
    and_less : (a b c : Bool) → (b && c) ≡ false → ((a && b) && c) ≡ false
    and_less true b c e = e
    and_less false b c e = refl

-- where no question asks for a parameter
pub unmarked_by_parameter : (name : List ℕ) (named : Named) → named.external ≡ false → (question : Question NodeRef) → Covers named question
    → by_parameter name question ≡ false
unmarked_by_parameter name named none (Step node x test) h = refl
unmarked_by_parameter name named none (Text node) h = refl
unmarked_by_parameter name named none (Name node) h = refl
unmarked_by_parameter name named none (Place node) h = refl
unmarked_by_parameter name named none (Order nodes) h = refl
unmarked_by_parameter name named none (Key key value) h = refl
unmarked_by_parameter name named none (Choice node mode candidates) h = refl
unmarked_by_parameter name named none (Copy node) h = refl
unmarked_by_parameter name named none (Unit element) h = refl
unmarked_by_parameter name named none (External other) h = absurd (both_ways named.external none h)
