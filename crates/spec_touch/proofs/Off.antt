-- What goes or comes is on no axis of a node that stays, unless the change marks that axis there.
use Rattle.std.proofs.Common.{◌≡◌, ℕ, ◌==◌, Bool, true, false, cond, not, List, [], ◌∷◌, None, Some, refl, sym, ap, ◌∙◌}
use Rattle.std.specs.Prelude.{◌&&◌, ◌||◌, is_some}
use Rattle.std.specs.List.{list_any}
use Rattle.std.specs.Ordering.{nat_cmp, is_eq}
use Rattle.std.proofs.lemmas.Bool.{eqb-true}
use Rattle.spec_document.specs.declared.axis.Axis.{Axis}
use Rattle.spec_document.specs.declared.axis.Axis.TheVariants as axis
use Rattle.spec_document.specs.Place.{Ending, Itself, AtAttribute, AtNamespace}
use Rattle.spec_document.specs.Order.{Way, ToNamespace, ToAttribute, ToChild, precedes, end_of}
use Rattle.spec_document.specs.Axis.{rest_after, begins_with, is_in_tree, is_end, is_child_step, is_attribute_step}
use Rattle.spec_document.specs.Axis.{is_namespace_step, is_step, is_longer}
use Rattle.spec_document.specs.Axis.{is_later_child, is_on}
use Rattle.spec_touch.proofs.Ways.{no-later, short, long, longer}
use Rattle.spec_touch.proofs.Positions.{way_from, cmp-unlike, cmp-self, unlike-swapped, Where, here, higher, child}
use Rattle.spec_touch.proofs.Positions.{At, at_here, at_higher, at_aside, at_child, at_lower, at_deeper}

-- ---- Where axes are marked

abbrev pub at_node : Where → Ending → Bool
at_node here Itself = true
at_node _ _ = false

abbrev pub at_or_above : Where → Ending → Bool
at_or_above here Itself = true
at_or_above higher Itself = true
at_or_above _ _ = false

abbrev pub at_a_child : Where → Ending → Bool
at_a_child child Itself = true
at_a_child _ _ = false

abbrev pub at_an_attribute : Where → Ending → Bool
at_an_attribute here (AtAttribute number) = true
at_an_attribute _ _ = false

-- ---- Two ways that part, or of which the first ends before the second

-- of a way that stays and one that goes or comes, where the tests say whether the first ends at the node of the change, at or above it, at a child of
-- it, or at an element whose attributes change
pub record IsOff (node above sibling element : Bool) (v x : List Way) : Type 0 where
  pub back : rest_after x v ≡ None
  pub end_is : is_end (rest_after v x) ≡ false
  pub namespace_is : is_namespace_step (rest_after v x) ≡ false
  pub attribute_is : element ≡ false → is_attribute_step (rest_after v x) ≡ false
  pub child_is : node ≡ false → is_child_step (rest_after v x) ≡ false
  pub longer_is : above ≡ false → is_longer (rest_after v x) ≡ false
  pub later_is : sibling ≡ false → is_later_child v x ≡ false
  pub sooner_is : sibling ≡ false → is_later_child x v ≡ false

no-and : (b c : Bool) → b ≡ false → (b && c) ≡ false
no-and true c e = absurd (cc)
no-and false c e = refl

and-no : (b c : Bool) → c ≡ false → (b && c) ≡ false
and-no true c e = e
and-no false c e = refl

later-parted : (m n : ℕ) (v x : List Way) → (m == n) ≡ false → (v ≡ [] → x ≡ [] → ⊥)
    → is_later_child (ToChild m ∷ v) (ToChild n ∷ x) ≡ false
later-parted m n [] [] e h = absurd (h refl refl)
later-parted m n [] (b ∷ x) e h = short (ToChild m) (ToChild n) b x
later-parted m n (a ∷ v) [] e h = long (ToChild m) a (ToChild n) v
later-parted m n (a ∷ v) (b ∷ x) e h = longer (ToChild m) a (ToChild n) b v x ∙ no-and (is_eq (nat_cmp m n)) _ (cmp-unlike m n e)

later-down : (q : ℕ) (v x : List Way) → (x ≡ [] → ⊥) → is_later_child v x ≡ false → is_later_child (ToChild q ∷ v) (ToChild q ∷ x) ≡ false
later-down q v [] h e = absurd (h refl)
later-down q [] (b ∷ x) h e = short (ToChild q) (ToChild q) b x
later-down q (a ∷ v) (b ∷ x) h e = longer (ToChild q) a (ToChild q) b v x ∙ and-no (is_eq (nat_cmp q q)) _ e

sooner-down : (q : ℕ) (v x : List Way) → (x ≡ [] → ⊥) → is_later_child x v ≡ false → is_later_child (ToChild q ∷ x) (ToChild q ∷ v) ≡ false
sooner-down q v [] h e = absurd (h refl)
sooner-down q [] (b ∷ x) h e = long (ToChild q) b (ToChild q) x
sooner-down q (a ∷ v) (b ∷ x) h e = longer (ToChild q) b (ToChild q) a x v ∙ and-no (is_eq (nat_cmp q q)) _ e

rest-parted : (m n : ℕ) (v x : List Way) → (m == n) ≡ false → rest_after (ToChild m ∷ v) (ToChild n ∷ x) ≡ None
rest-parted m n v x e = λ i. cond (cmp-unlike m n e i) (rest_after v x) None

rest-down : (q : ℕ) (v x : List Way) → rest_after (ToChild q ∷ v) (ToChild q ∷ x) ≡ rest_after v x
rest-down q v x = λ i. cond (cmp-self q i) (rest_after v x) None

parted : (node above sibling element : Bool) (m n : ℕ) (v x : List Way) → (m == n) ≡ false → (sibling ≡ false → v ≡ [] → x ≡ [] → ⊥)
    → IsOff node above sibling element (ToChild m ∷ v) (ToChild n ∷ x)
parted node above sibling element m n v x e h =
    let fore = rest-parted m n v x e in
    record {
      back = rest-parted n m x v (unlike-swapped m n e);
      end_is = ap is_end fore;
      namespace_is = ap is_namespace_step fore;
      attribute_is = λ _. ap is_attribute_step fore;
      child_is = λ _. ap is_child_step fore;
      longer_is = λ _. ap is_longer fore;
      later_is = λ s. later-parted m n v x e (h s);
      sooner_is = λ s. later-parted n m x v (unlike-swapped m n e) (λ p q. h s q p);
    }

further : {node above sibling element : Bool} (q : ℕ) {v x : List Way} → (x ≡ [] → ⊥) → IsOff node above sibling element v x
    → IsOff node above sibling element (ToChild q ∷ v) (ToChild q ∷ x)
further q {v = v} {x = x} some o =
    let fore = rest-down q v x in
    record {
      back = rest-down q x v ∙ o.back;
      end_is = ap is_end fore ∙ o.end_is;
      namespace_is = ap is_namespace_step fore ∙ o.namespace_is;
      attribute_is = λ h. ap is_attribute_step fore ∙ o.attribute_is h;
      child_is = λ h. ap is_child_step fore ∙ o.child_is h;
      longer_is = λ h. ap is_longer fore ∙ o.longer_is h;
      later_is = λ h. later-down q v x some (o.later_is h);
      sooner_is = λ h. sooner-down q v x some (o.sooner_is h);
    }

-- an attribute or a namespace node beside a child
sooner-attribute : (q k : ℕ) (x : List Way) → is_later_child (ToChild q ∷ x) (ToAttribute k ∷ []) ≡ false
sooner-attribute q k [] = refl
sooner-attribute q k (b ∷ x) = refl

sooner-namespace : (q : ℕ) (p : List ℕ) (x : List Way) → is_later_child (ToChild q ∷ x) (ToNamespace p ∷ []) ≡ false
sooner-namespace q p [] = refl
sooner-namespace q p (b ∷ x) = refl

beside-attribute : {node above sibling element : Bool} (k q : ℕ) (x : List Way)
    → IsOff node above sibling element (ToAttribute k ∷ []) (ToChild q ∷ x)
beside-attribute k q x =
    record {
      back = refl;
      end_is = refl;
      namespace_is = refl;
      attribute_is = λ _. refl;
      child_is = λ _. refl;
      longer_is = λ _. refl;
      later_is = λ _. refl;
      sooner_is = λ _. sooner-attribute q k x;
    }

beside-namespace : {node above sibling element : Bool} (p : List ℕ) (q : ℕ) (x : List Way)
    → IsOff node above sibling element (ToNamespace p ∷ []) (ToChild q ∷ x)
beside-namespace p q x =
    record {
      back = refl;
      end_is = refl;
      namespace_is = refl;
      attribute_is = λ _. refl;
      child_is = λ _. refl;
      longer_is = λ _. refl;
      later_is = λ _. refl;
      sooner_is = λ _. sooner-namespace q p x;
    }

more-than-child : (q : ℕ) (x : List Way) → (x ≡ [] → ⊥) → is_child_step (Some (ToChild q ∷ x)) ≡ false
more-than-child q [] h = absurd (h refl)
more-than-child q (b ∷ x) h = refl

-- where the way that stays ends above
ends-above : {above sibling element : Bool} (node : Bool) (q : ℕ) (x : List Way) → (node ≡ false → x ≡ [] → ⊥) → above ≡ true
    → IsOff node above sibling element [] (ToChild q ∷ x)
ends-above node q x some is =
    record {
      back = refl;
      end_is = refl;
      namespace_is = refl;
      attribute_is = λ _. refl;
      child_is = λ h. more-than-child q x (some h);
      longer_is = λ h. absurd (let e : true ≡ false = sym is ∙ h in cc);
      later_is = λ _. refl;
      sooner_is = λ _. no-later (ToChild q ∷ x);
    }

-- ---- Children that go or come, with what is below them

pub data IsBelow (kept : List ℕ) : (way positions : List ℕ) → Type 0 where
  in_child : {n : ℕ} {rest : List ℕ} → list_any (λ k. k == n) kept ≡ false → IsBelow kept [] (n ∷ rest)
  in_deeper : {q : ℕ} {way positions : List ℕ} → IsBelow kept way positions → IsBelow kept (q ∷ way) (q ∷ positions)

some-way : {kept : List ℕ} {way positions : List ℕ} (d : Ending) → IsBelow kept way positions → way_from positions d ≡ [] → ⊥
some-way d (in_child h) e = absurd (cc)
some-way d (in_deeper b) e = absurd (cc)

kept-unlike : (kept : List ℕ) (m n : ℕ) → list_any (λ k. k == m) kept ≡ true → list_any (λ k. k == n) kept ≡ false → (m == n) ≡ false
kept-unlike kept m n e f = by (m == n) refl
  where
    by : (b : Bool) → (m == n) ≡ b → (m == n) ≡ false
    by true g = absurd (let h : true ≡ false = sym e ∙ ap (λ j. list_any (λ k. k == j) kept) (eqb-true m n g) ∙ f in cc)
    by false g = g

here-below : (e : Ending) (q : ℕ) (x : List Way)
    → IsOff (at_node here e) (at_or_above here e) (at_a_child here e) false (end_of e) (ToChild q ∷ x)
here-below Itself q x = ends-above true q x (λ h _. absurd (cc)) refl
here-below (AtAttribute k) q x = beside-attribute k q x
here-below (AtNamespace p) q x = beside-namespace p q x

higher-below : (e : Ending) (q : ℕ) (x : List Way) → (x ≡ [] → ⊥)
    → IsOff (at_node higher e) (at_or_above higher e) (at_a_child higher e) false (end_of e) (ToChild q ∷ x)
higher-below Itself q x some = ends-above false q x (λ _. some) refl
higher-below (AtAttribute k) q x some = beside-attribute k q x
higher-below (AtNamespace p) q x some = beside-namespace p q x

child-below : (e : Ending) (m n : ℕ) (x : List Way) → (m == n) ≡ false
    → IsOff (at_node child e) (at_or_above child e) (at_a_child child e) false (ToChild m ∷ end_of e) (ToChild n ∷ x)
child-below Itself m n x u = parted _ _ _ _ m n [] x u (λ s _ _. absurd (cc))
child-below (AtAttribute k) m n x u = parted _ _ _ _ m n (ToAttribute k ∷ []) x u (λ _ p _. absurd (cc))
child-below (AtNamespace p) m n x u = parted _ _ _ _ m n (ToNamespace p ∷ []) x u (λ _ p _. absurd (cc))

pub below-off : {kept : List ℕ} {w : Where} {way positions others : List ℕ} (e d : Ending) → At kept w way positions
    → IsBelow kept way others
    → IsOff (at_node w e) (at_or_above w e) (at_a_child w e) false (way_from positions e) (way_from others d)
below-off e d at_here (in_child {n = n} {rest = rest} h) = here-below e n (way_from rest d)
below-off e d at_higher (in_deeper {q = q} {positions = others} b) = higher-below e q (way_from others d) (some-way d b)
below-off e d (at_aside {q = q} {m = m} {rest = rest} u) (in_deeper {positions = others} b) =
    parted _ _ _ _ m q (way_from rest e) (way_from others d) u (λ _ _ p. some-way d b p)
below-off {kept = kept} e d (at_child {n = m} g) (in_child {n = n} {rest = rest} h) =
    child-below e m n (way_from rest d) (kept-unlike kept m n g h)
below-off {kept = kept} e d (at_lower {n = m} {next = next} {rest = more} g) (in_child {n = n} {rest = rest} h) =
    parted _ _ _ _ m n (ToChild next ∷ way_from more e) (way_from rest d) (kept-unlike kept m n g h) (λ _ p _. absurd (cc))
below-off e d (at_deeper {q = q} a) (in_deeper b) = further q (some-way d b) (below-off e d a b)

-- ---- Attributes of the node of the change

some-end : (way : List ℕ) (k : ℕ) → way_from way (AtAttribute k) ≡ [] → ⊥
some-end [] k e = absurd (cc)
some-end (q ∷ way) k e = absurd (cc)

here-attribute : (e : Ending) (k : ℕ) → at_an_attribute here e ≡ false
    → IsOff false true false (at_node here e) (end_of e) (ToAttribute k ∷ [])
here-attribute Itself k h =
    record {
      back = refl;
      end_is = refl;
      namespace_is = refl;
      attribute_is = λ f. absurd (cc);
      child_is = λ _. refl;
      longer_is = λ f. absurd (cc);
      later_is = λ _. refl;
      sooner_is = λ _. refl;
    }
here-attribute (AtAttribute j) k h = absurd (cc)
here-attribute (AtNamespace p) k h =
    record {
      back = refl;
      end_is = refl;
      namespace_is = refl;
      attribute_is = λ _. refl;
      child_is = λ _. refl;
      longer_is = λ _. refl;
      later_is = λ _. refl;
      sooner_is = λ _. refl;
    }

higher-attribute : (e : Ending) (q : ℕ) (x : List Way) → (x ≡ [] → ⊥) → IsOff false true false (at_node higher e) (end_of e) (ToChild q ∷ x)
higher-attribute Itself q x some = ends-above false q x (λ _. some) refl
higher-attribute (AtAttribute k) q x some = beside-attribute k q x
higher-attribute (AtNamespace p) q x some = beside-namespace p q x

before-attribute : {node above sibling element : Bool} (n k : ℕ) (v : List Way)
    → IsOff node above sibling element (ToChild n ∷ v) (ToAttribute k ∷ [])
before-attribute n k v =
    record {
      back = refl;
      end_is = refl;
      namespace_is = refl;
      attribute_is = λ _. refl;
      child_is = λ _. refl;
      longer_is = λ _. refl;
      later_is = λ _. sooner-attribute n k v;
      sooner_is = λ _. refl;
    }

pub attribute-off : {kept : List ℕ} {w : Where} {way positions : List ℕ} (e : Ending) (k : ℕ) → at_an_attribute w e ≡ false
    → At kept w way positions
    → IsOff false true false (at_node w e) (way_from positions e) (way_from way (AtAttribute k))
attribute-off e k h at_here = here-attribute e k h
attribute-off e k h (at_higher {q = q} {way = way}) = higher-attribute e q (way_from way (AtAttribute k)) (some-end way k)
attribute-off e k h (at_aside {q = q} {m = m} {way = way} {rest = rest} u) =
    parted _ _ _ _ m q (way_from rest e) (way_from way (AtAttribute k)) u (λ _ _ p. some-end way k p)
attribute-off e k h (at_child {n = n} g) = before-attribute n k (end_of e)
attribute-off e k h (at_lower {n = n} {next = next} {rest = rest} g) = before-attribute n k (ToChild next ∷ way_from rest e)
attribute-off e k h (at_deeper {q = q} {way = way} a) = further q (some-end way k) (attribute-off e k h a)

pub attribute-outside : (way : List ℕ) (k : ℕ) → is_in_tree (way_from way (AtAttribute k)) ≡ false
attribute-outside [] k = refl
attribute-outside (q ∷ way) k = attribute-outside way k

-- ---- Axes

-- whether an axis is marked, where children change, and where attributes do
abbrev pub marks_children : Axis → Where → Ending → Bool
marks_children axis.Child w e = at_node w e
marks_children axis.Descendant w e = at_or_above w e
marks_children axis.DescendantOrSelf w e = at_or_above w e
marks_children axis.FollowingSibling w e = at_a_child w e
marks_children axis.PrecedingSibling w e = at_a_child w e
marks_children axis.Following w e = true
marks_children axis.Preceding w e = true
marks_children axis.Itself w e = false
marks_children axis.Parent w e = false
marks_children axis.Ancestor w e = false
marks_children axis.AncestorOrSelf w e = false
marks_children axis.Attribute w e = false
marks_children axis.Namespace w e = false

abbrev pub marks_attributes : Axis → Where → Ending → Bool
marks_attributes axis.Attribute w e = at_node w e
marks_attributes _ w e = false

pub children-unmarked : (a : Axis) (w : Where) (e : Ending) (v x : List Way) → marks_children a w e ≡ false
    → IsOff (at_node w e) (at_or_above w e) (at_a_child w e) false v x → is_on a v x ≡ false
children-unmarked axis.Itself w e v x h o = o.end_is
children-unmarked axis.Child w e v x h o = o.child_is h
children-unmarked axis.Attribute w e v x h o = o.attribute_is refl
children-unmarked axis.Namespace w e v x h o = o.namespace_is
children-unmarked axis.Parent w e v x h o = ap is_step o.back
children-unmarked axis.Ancestor w e v x h o = ap is_longer o.back
children-unmarked axis.AncestorOrSelf w e v x h o = ap is_some o.back
children-unmarked axis.Descendant w e v x h o = no-and _ (is_in_tree x) (o.longer_is h)
children-unmarked axis.DescendantOrSelf w e v x h o =
    (λ i. o.end_is i || (is_longer (rest_after v x) && is_in_tree x)) ∙ no-and _ (is_in_tree x) (o.longer_is h)
children-unmarked axis.FollowingSibling w e v x h o = o.later_is h
children-unmarked axis.PrecedingSibling w e v x h o = o.sooner_is h
children-unmarked axis.Following w e v x h o = absurd (cc)
children-unmarked axis.Preceding w e v x h o = absurd (cc)

last-no : (b c d : Bool) → d ≡ false → (b && c && d) ≡ false
last-no true true d e = e
last-no true false d e = refl
last-no false true d e = refl
last-no false false d e = refl

pub attributes-unmarked : (a : Axis) (w : Where) (e : Ending) (v x : List Way) → marks_attributes a w e ≡ false
    → IsOff false true false (at_node w e) v x → is_in_tree x ≡ false → is_on a v x ≡ false
attributes-unmarked axis.Itself w e v x h o t = o.end_is
attributes-unmarked axis.Child w e v x h o t = o.child_is refl
attributes-unmarked axis.Attribute w e v x h o t = o.attribute_is h
attributes-unmarked axis.Namespace w e v x h o t = o.namespace_is
attributes-unmarked axis.Parent w e v x h o t = ap is_step o.back
attributes-unmarked axis.Ancestor w e v x h o t = ap is_longer o.back
attributes-unmarked axis.AncestorOrSelf w e v x h o t = ap is_some o.back
attributes-unmarked axis.Descendant w e v x h o t = and-no (is_longer (rest_after v x)) _ t
attributes-unmarked axis.DescendantOrSelf w e v x h o t =
    (λ i. o.end_is i || (is_longer (rest_after v x) && is_in_tree x)) ∙ and-no (is_longer (rest_after v x)) _ t
attributes-unmarked axis.FollowingSibling w e v x h o t = o.later_is refl
attributes-unmarked axis.PrecedingSibling w e v x h o t = o.sooner_is refl
attributes-unmarked axis.Following w e v x h o t = last-no (precedes v x) (not (begins_with x v)) _ t
attributes-unmarked axis.Preceding w e v x h o t = last-no (precedes x v) (not (begins_with v x)) _ t
