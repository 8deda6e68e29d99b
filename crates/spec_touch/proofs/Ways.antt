-- Pairs of ways before and after, of which the steps to children may have other positions: what stands on an axis of the one stands there still.
use Rattle.std.proofs.Common.{◌≡◌, ℕ, Bool, true, false, cond, not, List, [], ◌∷◌, Option, None, Some, refl, sym, ap, ◌∙◌}
use Rattle.std.specs.Prelude.{◌&&◌, ◌||◌, is_some}
use Rattle.std.specs.Ordering.{is_eq, is_lt, ordering_then}
use Rattle.std.specs.declared.cmp.Ordering.{Ordering}
use Rattle.std.specs.declared.cmp.Ordering.TheVariants.{Less, Equal, Greater}
use Rattle.spec_document.specs.declared.axis.Axis.{Axis}
use Rattle.spec_document.specs.declared.axis.Axis.TheVariants as axis
use Rattle.spec_document.specs.Order.{Way, ToNamespace, ToAttribute, ToChild, way_cmp, document_cmp}
use Rattle.spec_document.specs.Axis.{rest_after, is_in_tree, is_end, is_child_step, is_attribute_step}
use Rattle.spec_document.specs.Axis.{is_namespace_step, is_step, is_longer}
use Rattle.spec_document.specs.Axis.{is_later_child, is_on}

-- ---- The same steps but for positions

pub data Sorts : List Way → List Way → Type 0 where
  none : Sorts [] []
  renamed : {m n : ℕ} {v w : List Way} → Sorts v w → Sorts (ToChild m ∷ v) (ToChild n ∷ w)
  same : {a : Way} {v w : List Way} → Sorts v w → Sorts (a ∷ v) (a ∷ w)

pub itself : (v : List Way) → Sorts v v
itself [] = none
itself (a ∷ v) = same (itself v)

tree-same : {v w : List Way} → Sorts v w → is_in_tree v ≡ is_in_tree w
tree-same none = refl
tree-same (renamed s) = tree-same s
tree-same (same {a = ToNamespace p} s) = refl
tree-same (same {a = ToAttribute n} s) = refl
tree-same (same {a = ToChild n} s) = tree-same s

-- ---- Pairs

-- two ways before, and the same two after
pub data Pair : (v w x y : List Way) → Type 0 where
  first_ends : {w y : List Way} → Sorts w y → Pair [] w [] y
  second_ends : {v x : List Way} → Sorts v x → Pair v [] x []
  goes_on : {a b c d : Way} {v w x y : List Way} → way_cmp a b ≡ way_cmp c d → Sorts (a ∷ v) (c ∷ x) → Sorts (b ∷ w) (d ∷ y)
      → Sorts v x → Sorts w y → (is_eq (way_cmp a b) ≡ true → Pair v w x y) → Pair (a ∷ v) (b ∷ w) (c ∷ x) (d ∷ y)

pub unmoved : (v w : List Way) → Pair v w v w
unmoved [] w = first_ends (itself w)
unmoved (a ∷ v) [] = second_ends (itself (a ∷ v))
unmoved (a ∷ v) (b ∷ w) = goes_on refl (itself (a ∷ v)) (itself (b ∷ w)) (itself v) (itself w) (λ _. unmoved v w)

-- ---- What follows where one way begins with the other

data SameRest : Option (List Way) → Option (List Way) → Type 0 where
  neither : SameRest None None
  both : {v w : List Way} → Sorts v w → SameRest (Some v) (Some w)

rest-cond : (b c : Bool) (o p : Option (List Way)) → b ≡ c → (b ≡ true → SameRest o p) → SameRest (cond b o None) (cond c p None)
rest-cond true true o p e h = h refl
rest-cond false false o p e h = neither
rest-cond true false o p e h = absurd (cc)
rest-cond false true o p e h = absurd (cc)

rest-same : {v w x y : List Way} → Pair v w x y → SameRest (rest_after v w) (rest_after x y)
rest-same (first_ends s) = both s
rest-same (second_ends none) = both none
rest-same (second_ends (renamed s)) = neither
rest-same (second_ends (same s)) = neither
rest-same (goes_on {a = a} {b = b} {c = c} {d = d} {v = v} {w = w} {x = x} {y = y} e s t more others p) =
    rest-cond (is_eq (way_cmp a b)) (is_eq (way_cmp c d)) (rest_after v w) (rest_after x y) (ap is_eq e) (λ h. rest-same (p h))

end-same : {o p : Option (List Way)} → SameRest o p → is_end o ≡ is_end p
end-same neither = refl
end-same (both none) = refl
end-same (both (renamed s)) = refl
end-same (both (same s)) = refl

child-step-same : {o p : Option (List Way)} → SameRest o p → is_child_step o ≡ is_child_step p
child-step-same neither = refl
child-step-same (both none) = refl
child-step-same (both (renamed none)) = refl
child-step-same (both (renamed (renamed s))) = refl
child-step-same (both (renamed (same s))) = refl
child-step-same (both (same {a = ToChild n} none)) = refl
child-step-same (both (same {a = ToChild n} (renamed s))) = refl
child-step-same (both (same {a = ToChild n} (same s))) = refl
child-step-same (both (same {a = ToAttribute n} s)) = refl
child-step-same (both (same {a = ToNamespace n} s)) = refl

attribute-step-same : {o p : Option (List Way)} → SameRest o p → is_attribute_step o ≡ is_attribute_step p
attribute-step-same neither = refl
attribute-step-same (both none) = refl
attribute-step-same (both (renamed s)) = refl
attribute-step-same (both (same {a = ToAttribute n} none)) = refl
attribute-step-same (both (same {a = ToAttribute n} (renamed s))) = refl
attribute-step-same (both (same {a = ToAttribute n} (same s))) = refl
attribute-step-same (both (same {a = ToChild n} s)) = refl
attribute-step-same (both (same {a = ToNamespace n} s)) = refl

namespace-step-same : {o p : Option (List Way)} → SameRest o p → is_namespace_step o ≡ is_namespace_step p
namespace-step-same neither = refl
namespace-step-same (both none) = refl
namespace-step-same (both (renamed s)) = refl
namespace-step-same (both (same {a = ToNamespace n} none)) = refl
namespace-step-same (both (same {a = ToNamespace n} (renamed s))) = refl
namespace-step-same (both (same {a = ToNamespace n} (same s))) = refl
namespace-step-same (both (same {a = ToChild n} s)) = refl
namespace-step-same (both (same {a = ToAttribute n} s)) = refl

step-same : {o p : Option (List Way)} → SameRest o p → is_step o ≡ is_step p
step-same neither = refl
step-same (both none) = refl
step-same (both (renamed none)) = refl
step-same (both (renamed (renamed s))) = refl
step-same (both (renamed (same s))) = refl
step-same (both (same none)) = refl
step-same (both (same (renamed s))) = refl
step-same (both (same (same s))) = refl

longer-same : {o p : Option (List Way)} → SameRest o p → is_longer o ≡ is_longer p
longer-same neither = refl
longer-same (both none) = refl
longer-same (both (renamed s)) = refl
longer-same (both (same s)) = refl

some-same : {o p : Option (List Way)} → SameRest o p → is_some o ≡ is_some p
some-same neither = refl
some-same (both s) = refl

-- ---- Order

then-same : (o p : Ordering) (q r : Ordering) → o ≡ p → (is_eq o ≡ true → q ≡ r) → ordering_then o q ≡ ordering_then p r
then-same Less Less q r e h = refl
then-same Greater Greater q r e h = refl
then-same Equal Equal q r e h = h refl
then-same Less Equal q r e h = absurd (cc)
then-same Less Greater q r e h = absurd (cc)
then-same Greater Equal q r e h = absurd (cc)
then-same Greater Less q r e h = absurd (cc)
then-same Equal Less q r e h = absurd (cc)
then-same Equal Greater q r e h = absurd (cc)

cmp-same : {v w x y : List Way} → Pair v w x y → document_cmp v w ≡ document_cmp x y
cmp-same (first_ends none) = refl
cmp-same (first_ends (renamed s)) = refl
cmp-same (first_ends (same s)) = refl
cmp-same (second_ends none) = refl
cmp-same (second_ends (renamed s)) = refl
cmp-same (second_ends (same s)) = refl
cmp-same (goes_on {a = a} {b = b} {c = c} {d = d} {v = v} {w = w} {x = x} {y = y} e s t more others p) =
    then-same (way_cmp a b) (way_cmp c d) (document_cmp v w) (document_cmp x y) e (λ h. cmp-same (p h))

-- ---- Later siblings

pub no-later : (v : List Way) → is_later_child v [] ≡ false
no-later [] = refl
no-later (ToChild n ∷ []) = refl
no-later (ToAttribute n ∷ []) = refl
no-later (ToNamespace n ∷ []) = refl
no-later (ToChild n ∷ b ∷ v) = refl
no-later (ToAttribute n ∷ b ∷ v) = refl
no-later (ToNamespace n ∷ b ∷ v) = refl

and-same : (b c : Bool) (p q : Bool) → b ≡ c → (b ≡ true → p ≡ q) → (b && p) ≡ (c && q)
and-same true true p q e h = h refl
and-same false false p q e h = refl
and-same true false p q e h = absurd (cc)
and-same false true p q e h = absurd (cc)

-- of single steps
last-same : (a b c d : Way) → way_cmp a b ≡ way_cmp c d → Sorts (a ∷ []) (c ∷ []) → Sorts (b ∷ []) (d ∷ [])
    → is_later_child (a ∷ []) (b ∷ []) ≡ is_later_child (c ∷ []) (d ∷ [])
last-same _ _ _ _ e (renamed s) (renamed t) = ap is_lt e
last-same _ _ _ _ e (renamed s) (same {a = ToChild n} t) = ap is_lt e
last-same _ _ _ _ e (renamed s) (same {a = ToAttribute n} t) = refl
last-same _ _ _ _ e (renamed s) (same {a = ToNamespace n} t) = refl
last-same _ _ _ _ e (same {a = ToChild n} s) (renamed t) = ap is_lt e
last-same _ _ _ _ e (same {a = ToAttribute n} s) (renamed t) = refl
last-same _ _ _ _ e (same {a = ToNamespace n} s) (renamed t) = refl
last-same _ _ _ _ e (same s) (same t) = refl

-- a way of one step and a longer one are not to siblings
pub short : (a b c : Way) (w : List Way) → is_later_child (a ∷ []) (b ∷ c ∷ w) ≡ false
short (ToChild n) (ToChild m) c w = refl
short (ToChild n) (ToAttribute m) c w = refl
short (ToChild n) (ToNamespace m) c w = refl
short (ToAttribute n) b c w = refl
short (ToNamespace n) b c w = refl

pub long : (a b c : Way) (v : List Way) → is_later_child (a ∷ b ∷ v) (c ∷ []) ≡ false
long (ToChild n) b (ToChild m) v = refl
long (ToChild n) b (ToAttribute m) v = refl
long (ToChild n) b (ToNamespace m) v = refl
long (ToAttribute n) b c v = refl
long (ToNamespace n) b c v = refl

-- two longer ones
pub longer : (a b c d : Way) (v w : List Way)
    → is_later_child (a ∷ b ∷ v) (c ∷ d ∷ w) ≡ (is_eq (way_cmp a c) && is_later_child (b ∷ v) (d ∷ w))
longer (ToChild n) b (ToChild m) d v w = refl
longer (ToChild n) b (ToAttribute m) d v w = refl
longer (ToChild n) b (ToNamespace m) d v w = refl
longer (ToAttribute n) b c d v w = refl
longer (ToNamespace n) b c d v w = refl

later-same : {v w x y : List Way} → Pair v w x y → is_later_child v w ≡ is_later_child x y
later-same (first_ends s) = refl
later-same (second_ends {v = v} {x = x} s) = no-later v ∙ sym (no-later x)
later-same (goes_on {a = a} {b = b} {c = c} {d = d} e s t none none p) = last-same a b c d e s t
later-same (goes_on {a = a} {b = b} {c = c} {d = d} e s t none (renamed o) p) = short a b _ _ ∙ sym (short c d _ _)
later-same (goes_on {a = a} {b = b} {c = c} {d = d} e s t none (same o) p) = short a b _ _ ∙ sym (short c d _ _)
later-same (goes_on {a = a} {b = b} {c = c} {d = d} e s t (renamed m) none p) = long a _ b _ ∙ sym (long c _ d _)
later-same (goes_on {a = a} {b = b} {c = c} {d = d} e s t (same m) none p) = long a _ b _ ∙ sym (long c _ d _)
later-same (goes_on {a = a} {b = b} {c = c} {d = d} e s t (renamed m) (renamed o) p) =
    longer a _ b _ _ _ ∙ and-same _ _ _ _ (ap is_eq e) (λ h. later-same (p h)) ∙ sym (longer c _ d _ _ _)
later-same (goes_on {a = a} {b = b} {c = c} {d = d} e s t (renamed m) (same o) p) =
    longer a _ b _ _ _ ∙ and-same _ _ _ _ (ap is_eq e) (λ h. later-same (p h)) ∙ sym (longer c _ d _ _ _)
later-same (goes_on {a = a} {b = b} {c = c} {d = d} e s t (same m) (renamed o) p) =
    longer a _ b _ _ _ ∙ and-same _ _ _ _ (ap is_eq e) (λ h. later-same (p h)) ∙ sym (longer c _ d _ _ _)
later-same (goes_on {a = a} {b = b} {c = c} {d = d} e s t (same m) (same o) p) =
    longer a _ b _ _ _ ∙ and-same _ _ _ _ (ap is_eq e) (λ h. later-same (p h)) ∙ sym (longer c _ d _ _ _)

-- ---- Axes

-- what stands on an axis before stands on it after
pub on-same : (a : Axis) {v w x y : List Way} → Pair v w x y → Pair w v y x → Sorts w y → is_on a v w ≡ is_on a x y
on-same axis.Itself p q s = end-same (rest-same p)
on-same axis.Child p q s = child-step-same (rest-same p)
on-same axis.Attribute p q s = attribute-step-same (rest-same p)
on-same axis.Namespace p q s = namespace-step-same (rest-same p)
on-same axis.Parent p q s = step-same (rest-same q)
on-same axis.Descendant p q s = λ i. longer-same (rest-same p) i && tree-same s i
on-same axis.DescendantOrSelf p q s = λ i. end-same (rest-same p) i || (longer-same (rest-same p) i && tree-same s i)
on-same axis.Ancestor p q s = longer-same (rest-same q)
on-same axis.AncestorOrSelf p q s = some-same (rest-same q)
on-same axis.Following p q s = λ i. is_lt (cmp-same p i) && not (some-same (rest-same p) i) && tree-same s i
on-same axis.Preceding p q s = λ i. is_lt (cmp-same q i) && not (some-same (rest-same q) i) && tree-same s i
on-same axis.FollowingSibling p q s = later-same p
on-same axis.PrecedingSibling p q s = later-same q
