-- Ways that go on from some positions, and places whose ways do not begin with these: on no axis that leads down does the one find the other.
use Rattle.std.proofs.Common.{◌≡◌, ℕ, ◌==◌, Bool, true, false, cond, not, List, [], ◌∷◌, ◌++◌, map, None, refl, ap, ◌∙◌}
use Rattle.std.proofs.Common.{sym}
use Rattle.std.specs.Prelude.{◌&&◌, ◌||◌}
use Rattle.std.specs.Ordering.{nat_cmp, is_eq, is_lt}
use Rattle.std.specs.declared.cmp.Ordering.{Ordering}
use Rattle.std.specs.declared.cmp.Ordering.TheVariants.{Less, Equal, Greater}
use Rattle.spec_document.specs.declared.axis.Axis.{Axis}
use Rattle.spec_document.specs.declared.axis.Axis.TheVariants as axis
use Rattle.spec_document.specs.Place.{Ending, Itself, AtAttribute, AtNamespace}
use Rattle.spec_document.specs.Order.{Way, ToNamespace, ToAttribute, ToChild, way_cmp}
use Rattle.spec_document.specs.Axis.{rest_after, is_in_tree, is_end, is_child_step, is_attribute_step}
use Rattle.spec_document.specs.Axis.{is_namespace_step, is_longer, is_later_child, is_on}
use Rattle.spec_touch.specs.Moved.{stays_along}
use Rattle.spec_touch.proofs.Ways.{no-later, short, long, longer}
use Rattle.spec_touch.proofs.Positions.{way_from, cmp-unlike, cmp-self, unlike-swapped}

-- the way to a place does not begin with these positions
pub data IsApart : (way positions : List ℕ) → Type 0 where
  ends : {q : ℕ} {way : List ℕ} → IsApart (q ∷ way) []
  parts : {q m : ℕ} {way rest : List ℕ} → (m == q) ≡ false → IsApart (q ∷ way) (m ∷ rest)
  further : {q : ℕ} {way positions : List ℕ} → IsApart way positions → IsApart (q ∷ way) (q ∷ positions)

pub apart-prefixed : {way positions : List ℕ} (s : List ℕ) → IsApart way positions → IsApart (s ++ way) (s ++ positions)
apart-prefixed [] a = a
apart-prefixed (q ∷ s) a = further (apart-prefixed s a)

-- these steps on from these positions
abbrev pub onward : List ℕ → List Way → List Way
onward way steps = map ToChild way ++ steps

pub way-onward : (s p : List ℕ) (e : Ending) → way_from (s ++ p) e ≡ onward s (way_from p e)
way-onward [] p e = refl
way-onward (q ∷ s) p e = ap (λ w. ToChild q ∷ w) (way-onward s p e)

-- whether a place is that of the node itself, seen from there
abbrev pub is_top : Ending → List ℕ → Bool
is_top Itself [] = true
is_top Itself (k ∷ p) = false
is_top (AtAttribute n) p = false
is_top (AtNamespace q) p = false

-- an axis that finds of the tree's own node what it found does so below it
pub below-stays : (a : Axis) (moved : Bool) → stays_along a moved ≡ true → stays_along a false ≡ true
below-stays axis.Itself moved h = refl
below-stays axis.Child moved h = refl
below-stays axis.Attribute moved h = refl
below-stays axis.Namespace moved h = refl
below-stays axis.Descendant moved h = refl
below-stays axis.DescendantOrSelf moved h = refl
below-stays axis.FollowingSibling moved h = refl
below-stays axis.PrecedingSibling moved h = refl
below-stays axis.Parent moved h = absurd (cc)
below-stays axis.Ancestor moved h = absurd (cc)
below-stays axis.AncestorOrSelf moved h = absurd (cc)
below-stays axis.Following moved h = absurd (cc)
below-stays axis.Preceding moved h = absurd (cc)

-- ---- Two ways from the same positions

rest-onward : (s : List ℕ) (v w : List Way) → rest_after (onward s v) (onward s w) ≡ rest_after v w
rest-onward [] v w = refl
rest-onward (q ∷ s) v w = (λ i. cond (cmp-self q i) (rest_after (onward s v) (onward s w)) None) ∙ rest-onward s v w

tree-onward : (s : List ℕ) (w : List Way) → is_in_tree (onward s w) ≡ is_in_tree w
tree-onward [] w = refl
tree-onward (q ∷ s) w = tree-onward s w

lt-self : (q : ℕ) → is_lt (nat_cmp q q) ≡ false
lt-self q = by (nat_cmp q q) (cmp-self q)
  where
    by : (c : Ordering) → is_eq c ≡ true → is_lt c ≡ false
    by Less e = absurd (cc)
    by Equal e = refl
    by Greater e = refl

later-step : (q : ℕ) (v w : List Way) → is_later_child (ToChild q ∷ v) (ToChild q ∷ w) ≡ is_later_child v w
later-step q [] [] = lt-self q
later-step q [] (b ∷ w) = short (ToChild q) (ToChild q) b w
later-step q (a ∷ v) [] = long (ToChild q) a (ToChild q) v ∙ sym (no-later (a ∷ v))
later-step q (a ∷ v) (b ∷ w) = longer (ToChild q) a (ToChild q) b v w ∙ (λ i. cmp-self q i && is_later_child (a ∷ v) (b ∷ w))

later-onward : (s : List ℕ) (v w : List Way) → is_later_child (onward s v) (onward s w) ≡ is_later_child v w
later-onward [] v w = refl
later-onward (q ∷ s) v w = later-step q (onward s v) (onward s w) ∙ later-onward s v w

pub on-onward : (a : Axis) (top : Bool) → stays_along a top ≡ true → (s : List ℕ) (v w : List Way)
    → is_on a (onward s v) (onward s w) ≡ is_on a v w
on-onward axis.Itself top h s v w = ap is_end (rest-onward s v w)
on-onward axis.Child top h s v w = ap is_child_step (rest-onward s v w)
on-onward axis.Attribute top h s v w = ap is_attribute_step (rest-onward s v w)
on-onward axis.Namespace top h s v w = ap is_namespace_step (rest-onward s v w)
on-onward axis.Descendant top h s v w = λ i. is_longer (rest-onward s v w i) && tree-onward s w i
on-onward axis.DescendantOrSelf top h s v w =
    λ i. is_end (rest-onward s v w i) || (is_longer (rest-onward s v w i) && tree-onward s w i)
on-onward axis.FollowingSibling top h s v w = later-onward s v w
on-onward axis.PrecedingSibling top h s v w = later-onward s w v
on-onward axis.Parent top h s v w = absurd (cc)
on-onward axis.Ancestor top h s v w = absurd (cc)
on-onward axis.AncestorOrSelf top h s v w = absurd (cc)
on-onward axis.Following top h s v w = absurd (cc)
on-onward axis.Preceding top h s v w = absurd (cc)

-- ---- A way from the positions, and one that does not begin with them

rest-apart : {way positions : List ℕ} → IsApart way positions → (v : List Way) (d : Ending)
    → rest_after (onward way v) (way_from positions d) ≡ None
rest-apart ends v Itself = refl
rest-apart ends v (AtAttribute n) = refl
rest-apart ends v (AtNamespace p) = refl
rest-apart (parts {q = q} {m = m} {way = way} {rest = rest} e) v d =
    λ i. cond (cmp-unlike q m (unlike-swapped m q e) i) (rest_after (onward way v) (way_from rest d)) None
rest-apart (further {q = q} {way = way} {positions = positions} a) v d =
    (λ i. cond (cmp-self q i) (rest_after (onward way v) (way_from positions d)) None) ∙ rest-apart a v d

-- one step more than the positions at least
long-onward : (q : ℕ) (way : List ℕ) (a : Way) (v : List Way) (c : Way) → is_later_child (ToChild q ∷ onward way (a ∷ v)) (c ∷ []) ≡ false
long-onward q [] a v c = long (ToChild q) a c v
long-onward q (k ∷ way) a v c = long (ToChild q) (ToChild k) c (onward way (a ∷ v))

short-onward : (c : Way) (q : ℕ) (way : List ℕ) (a : Way) (v : List Way) → is_later_child (c ∷ []) (ToChild q ∷ onward way (a ∷ v)) ≡ false
short-onward c q [] a v = short c (ToChild q) a v
short-onward c q (k ∷ way) a v = short c (ToChild q) (ToChild k) (onward way (a ∷ v))

longer-onward : (q : ℕ) (way : List ℕ) (a : Way) (v : List Way) (c d : Way) (w : List Way)
    → is_later_child (ToChild q ∷ onward way (a ∷ v)) (c ∷ d ∷ w)
    ≡ (is_eq (way_cmp (ToChild q) c) && is_later_child (onward way (a ∷ v)) (d ∷ w))
longer-onward q [] a v c d w = longer (ToChild q) a c d v w
longer-onward q (k ∷ way) a v c d w = longer (ToChild q) (ToChild k) c d (onward way (a ∷ v)) w

sooner-onward : (c d : Way) (w : List Way) (q : ℕ) (way : List ℕ) (a : Way) (v : List Way)
    → is_later_child (c ∷ d ∷ w) (ToChild q ∷ onward way (a ∷ v))
    ≡ (is_eq (way_cmp c (ToChild q)) && is_later_child (d ∷ w) (onward way (a ∷ v)))
sooner-onward c d w q [] a v = longer c d (ToChild q) a w v
sooner-onward c d w q (k ∷ way) a v = longer c d (ToChild q) (ToChild k) w (onward way (a ∷ v))

first-not : (b c : Bool) → b ≡ false → (b && c) ≡ false
first-not true c e = absurd (cc)
first-not false c e = refl

later-parted : (q m : ℕ) → (m == q) ≡ false → (way : List ℕ) (a : Way) (v w : List Way)
    → is_later_child (ToChild q ∷ onward way (a ∷ v)) (ToChild m ∷ w) ≡ false
later-parted q m e way a v [] = long-onward q way a v (ToChild m)
later-parted q m e way a v (d ∷ w) =
    longer-onward q way a v (ToChild m) d w ∙ first-not (is_eq (nat_cmp q m)) _ (cmp-unlike q m (unlike-swapped m q e))

sooner-parted : (q m : ℕ) → (m == q) ≡ false → (way : List ℕ) (a : Way) (v w : List Way)
    → is_later_child (ToChild m ∷ w) (ToChild q ∷ onward way (a ∷ v)) ≡ false
sooner-parted q m e way a v [] = short-onward (ToChild m) q way a v
sooner-parted q m e way a v (d ∷ w) =
    sooner-onward (ToChild m) d w q way a v ∙ first-not (is_eq (nat_cmp m q)) _ (cmp-unlike m q e)

later-apart : {way positions : List ℕ} → IsApart way positions → (a : Way) (v : List Way) (d : Ending)
    → is_later_child (onward way (a ∷ v)) (way_from positions d) ≡ false
later-apart (ends {q = q} {way = way}) a v Itself = no-later (ToChild q ∷ onward way (a ∷ v))
later-apart (ends {q = q} {way = way}) a v (AtAttribute n) = long-onward q way a v (ToAttribute n)
later-apart (ends {q = q} {way = way}) a v (AtNamespace p) = long-onward q way a v (ToNamespace p)
later-apart (parts {q = q} {m = m} {way = way} {rest = rest} e) a v d = later-parted q m e way a v (way_from rest d)
later-apart (further {q = q} {way = way} {positions = positions} x) a v d =
    later-step q (onward way (a ∷ v)) (way_from positions d) ∙ later-apart x a v d

sooner-apart : {way positions : List ℕ} → IsApart way positions → (a : Way) (v : List Way) (d : Ending)
    → is_later_child (way_from positions d) (onward way (a ∷ v)) ≡ false
sooner-apart (ends {q = q} {way = way}) a v Itself = refl
sooner-apart (ends {q = q} {way = way}) a v (AtAttribute n) = short-onward (ToAttribute n) q way a v
sooner-apart (ends {q = q} {way = way}) a v (AtNamespace p) = short-onward (ToNamespace p) q way a v
sooner-apart (parts {q = q} {m = m} {way = way} {rest = rest} e) a v d = sooner-parted q m e way a v (way_from rest d)
sooner-apart (further {q = q} {way = way} {positions = positions} x) a v d =
    later-step q (way_from positions d) (onward way (a ∷ v)) ∙ sooner-apart x a v d

siblings-apart : {way positions : List ℕ} → IsApart way positions → (e : Ending) (p : List ℕ) → is_top e p ≡ false → (d : Ending)
    → (is_later_child (onward way (way_from p e)) (way_from positions d) ≡ false)
    × (is_later_child (way_from positions d) (onward way (way_from p e)) ≡ false)
siblings-apart x Itself [] h d = absurd (cc)
siblings-apart x (AtAttribute n) [] h d = (later-apart x (ToAttribute n) [] d, sooner-apart x (ToAttribute n) [] d)
siblings-apart x (AtNamespace q) [] h d = (later-apart x (ToNamespace q) [] d, sooner-apart x (ToNamespace q) [] d)
siblings-apart x e (k ∷ p) h d = (later-apart x (ToChild k) (way_from p e) d, sooner-apart x (ToChild k) (way_from p e) d)

not-true : (b : Bool) → not b ≡ true → b ≡ false
not-true true h = absurd (cc)
not-true false h = refl

pub on-apart : (a : Axis) {way positions : List ℕ} → IsApart way positions → (e : Ending) (p : List ℕ)
    → stays_along a (is_top e p) ≡ true → (d : Ending) → is_on a (onward way (way_from p e)) (way_from positions d) ≡ false
on-apart axis.Itself x e p h d = ap is_end (rest-apart x (way_from p e) d)
on-apart axis.Child x e p h d = ap is_child_step (rest-apart x (way_from p e) d)
on-apart axis.Attribute x e p h d = ap is_attribute_step (rest-apart x (way_from p e) d)
on-apart axis.Namespace x e p h d = ap is_namespace_step (rest-apart x (way_from p e) d)
on-apart axis.Descendant {positions = positions} x e p h d =
    λ i. is_longer (rest-apart x (way_from p e) d i) && is_in_tree (way_from positions d)
on-apart axis.DescendantOrSelf {positions = positions} x e p h d =
    λ i. is_end (rest-apart x (way_from p e) d i) || (is_longer (rest-apart x (way_from p e) d i) && is_in_tree (way_from positions d))
on-apart axis.FollowingSibling x e p h d = (siblings-apart x e p (not-true (is_top e p) h) d).0
on-apart axis.PrecedingSibling x e p h d = (siblings-apart x e p (not-true (is_top e p) h) d).1
on-apart axis.Parent x e p h d = absurd (cc)
on-apart axis.Ancestor x e p h d = absurd (cc)
on-apart axis.AncestorOrSelf x e p h d = absurd (cc)
on-apart axis.Following x e p h d = absurd (cc)
on-apart axis.Preceding x e p h d = absurd (cc)
