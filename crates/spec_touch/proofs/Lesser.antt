-- A change of children that marks at a node no more than another.
use Rattle.std.proofs.Common.{◌≡◌, ℕ, ◌==◌, Bool, true, false, [], ◌∷◌, ◌++◌, refl, ap, ◌∙◌}
use Rattle.std.specs.Prelude.{◌&&◌, ◌||◌}
use Rattle.spec_document.specs.declared.axis.Axis.{Axis}
use Rattle.spec_document.specs.declared.axis.Axis.TheVariants as axis
use Rattle.spec_meaning.specs.Question as question
use Rattle.spec_meaning.specs.Question.{Question}
use Rattle.spec_change.specs.Change.{Change, is_among}
use Rattle.spec_node.specs.declared.node_ref.NodeRef.{NodeRef}
use Rattle.spec_touch.specs.Touched.{is_itself, is_attribute, is_one_of, goes_or_comes, is_changed, holds_change, is_child, step_by_children}
use Rattle.spec_touch.specs.Touched.{inside_by_children, by_children}
use Rattle.spec_touch.specs.Moved.{asks_order}
use Rattle.spec_touch.proofs.Answering.{neither-first, neither-second}

pub record IsLess (c d : Change) (n : ℕ) : Type 0 where
  pub of_children : d.of_attributes ≡ false
  pub node : d.node ≡ c.node
  pub above : d.above ≡ c.above
  pub gone : is_among c.gone n ≡ false → is_among c.brought n ≡ false → is_among d.gone n ≡ false
  pub brought : is_among c.gone n ≡ false → is_among c.brought n ≡ false → is_among d.brought n ≡ false
  pub child : is_among (c.before ++ c.after) n ≡ false → is_among (d.before ++ d.after) n ≡ false

neither : (a b : Bool) → a ≡ false → b ≡ false → (a || b) ≡ false
neither true b e f = absurd (cc)
neither false b e f = f

no-and : (b c : Bool) → b ≡ false → (b && c) ≡ false
no-and true c e = absurd (cc)
no-and false c e = refl

weaker : (b c d : Bool) → (c ≡ false → d ≡ false) → (b && c) ≡ false → (b && d) ≡ false
weaker true c d h e = h e
weaker false c d h e = refl

module _ (c d : Change) where
  abbrev LessAt : NodeRef → Type 0
  LessAt node = IsLess c d node.node.number

  less-goes : (node : NodeRef) → LessAt node → goes_or_comes c node ≡ false → goes_or_comes d node ≡ false
  less-goes node h u =
      let n = node.node.number in
      let both = neither-first (is_among c.gone n || is_among c.brought n) _ u in
      let first = neither-first (is_among c.gone n) (is_among c.brought n) both in
      let second = neither-second (is_among c.gone n) (is_among c.brought n) both in
      neither (is_among d.gone n || is_among d.brought n) _
      (neither (is_among d.gone n) (is_among d.brought n) (h.gone first second) (h.brought first second))
      (no-and (d.of_attributes && is_attribute node.part) (node.node.number == d.node)
      (no-and d.of_attributes (is_attribute node.part) h.of_children))

  less-changed : (node : NodeRef) → LessAt node → is_changed c node ≡ false → is_changed d node ≡ false
  less-changed node h u = ap (λ n. is_one_of (n ∷ []) node) h.node ∙ u

  less-holds : (node : NodeRef) → LessAt node → holds_change c node ≡ false → holds_change d node ≡ false
  less-holds node h u = (λ i. is_one_of (h.node i ∷ h.above i) node) ∙ u

  less-child : (node : NodeRef) → LessAt node → is_child c node ≡ false → is_child d node ≡ false
  less-child node h u =
      weaker (is_itself node.part) (is_among (c.before ++ c.after) node.node.number) (is_among (d.before ++ d.after) node.node.number) h.child u

  less-step : (a : Axis) (node : NodeRef) → LessAt node → step_by_children c a node ≡ false → step_by_children d a node ≡ false
  less-step axis.Child node h u = less-changed node h u
  less-step axis.Descendant node h u = less-holds node h u
  less-step axis.DescendantOrSelf node h u = less-holds node h u
  less-step axis.FollowingSibling node h u = less-child node h u
  less-step axis.PrecedingSibling node h u = less-child node h u
  less-step axis.Following node h u = u
  less-step axis.Preceding node h u = u
  less-step axis.Itself node h u = refl
  less-step axis.Parent node h u = refl
  less-step axis.Ancestor node h u = refl
  less-step axis.AncestorOrSelf node h u = refl
  less-step axis.Attribute node h u = refl
  less-step axis.Namespace node h u = refl

  less-inside : (node : NodeRef) → LessAt node → (goes_or_comes c node || inside_by_children c node) ≡ false
      → (goes_or_comes d node || inside_by_children d node) ≡ false
  less-inside node h u =
      let rest = neither-second (goes_or_comes c node) _ u in
      neither (goes_or_comes d node) _ (less-goes node h (neither-first (goes_or_comes c node) _ u))
      (neither (holds_change d node) _ (less-holds node h (neither-first (holds_change c node) _ rest))
      (less-child node h (neither-second (holds_change c node) _ rest)))

-- of the node that is asked about, where it is one
abbrev pub AtAsked : (ℕ → Type 0) → Question NodeRef → Type 0
AtAsked P (question.Step node a test) = P node.node.number
AtAsked P (question.Text node) = P node.node.number
AtAsked P (question.Name node) = P node.node.number
AtAsked P (question.Place node) = P node.node.number
AtAsked P (question.Order nodes) = Unit {0}
AtAsked P (question.Key name value) = Unit {0}
AtAsked P (question.Choice node mode candidates) = Unit {0}
AtAsked P (question.Copy node) = P node.node.number
AtAsked P (question.Unit element) = Unit {0}
AtAsked P (question.External name) = Unit {0}

-- questions of the order of nodes apart
pub less-marked : (c d : Change) (q : Question NodeRef) → AtAsked (IsLess c d) q → asks_order q ≡ false → by_children c q ≡ false
    → by_children d q ≡ false
less-marked c d (question.Step node a test) h o u =
    neither (goes_or_comes d node) _ (less-goes c d node h (neither-first (goes_or_comes c node) _ u))
    (less-step c d a node h (neither-second (goes_or_comes c node) _ u))
less-marked c d (question.Text node) h o u = less-inside c d node h u
less-marked c d (question.Name node) h o u = less-goes c d node h u
less-marked c d (question.Place node) h o u = u
less-marked c d (question.Order nodes) h o u = absurd (cc)
less-marked c d (question.Key name value) h o u = u
less-marked c d (question.Choice node mode candidates) h o u = u
less-marked c d (question.Copy node) h o u = less-inside c d node h u
less-marked c d (question.Unit element) h o u = refl
less-marked c d (question.External name) h o u = refl
