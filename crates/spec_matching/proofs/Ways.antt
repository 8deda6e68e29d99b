-- Ways to places: what a way goes on by, which places are the same, and which steps follow which.
use Rattle.std.proofs.Common.{◌≡◌, ℕ, Bool, true, false, cond, List, [], ◌∷◌, ◌++◌, Option, None, Some, refl, sym, ap, ◌∙◌}
use Rattle.std.specs.Prelude.{map, is_some}
use Rattle.std.specs.Ordering.{is_eq}
use Rattle.std.specs.declared.cmp.Ordering.{Ordering}
use Rattle.std.specs.declared.cmp.Ordering.TheVariants.{Less, Equal, Greater}
use Rattle.std.proofs.lemmas.Cmp.{tied_itself}
use Rattle.spec_document.specs.Place.{Ending, Itself, AtAttribute, AtNamespace, Place}
use Rattle.spec_document.specs.Order.{Way, ToNamespace, ToAttribute, ToChild, way_cmp, document_cmp, way_to, end_of, is_same_place}
use Rattle.spec_document.specs.Axis.{rest_after, is_in_tree, is_child_step, is_attribute_step, is_step, is_longer}
use Rattle.spec_document.proofs.Ways.{way_same, document_total, document_same}
use Rattle.spec_document.proofs.Listed.{way_self}
use Rattle.spec_matching.specs.Asked.{TellsApart}

-- ---- Places are told apart by their ways

abbrev positions_in : List Way → List ℕ
positions_in [] = []
positions_in (ToChild n ∷ w) = n ∷ positions_in w
positions_in (ToAttribute n ∷ w) = []
positions_in (ToNamespace p ∷ w) = []

abbrev ending_in : List Way → Ending
ending_in [] = Itself
ending_in (ToChild n ∷ w) = ending_in w
ending_in (ToAttribute n ∷ w) = AtAttribute n
ending_in (ToNamespace p ∷ w) = AtNamespace p

positions_are : (ps : List ℕ) (e : Ending) → positions_in (map ToChild ps ++ end_of e) ≡ ps
positions_are [] Itself = refl
positions_are [] (AtAttribute n) = refl
positions_are [] (AtNamespace p) = refl
positions_are (n ∷ ps) e = ap (λ (qs : List ℕ). n ∷ qs) (positions_are ps e)

ending_is : (ps : List ℕ) (e : Ending) → ending_in (map ToChild ps ++ end_of e) ≡ e
ending_is [] Itself = refl
ending_is [] (AtAttribute n) = refl
ending_is [] (AtNamespace p) = refl
ending_is (n ∷ ps) e = ending_is ps e

abbrev place_in : List Way → Place
place_in w = record { positions = positions_in w; ending = ending_in w }

place_is : (p : Place) → place_in (way_to p) ≡ p
place_is p = λ i. record { positions = positions_are p.positions p.ending i; ending = ending_is p.positions p.ending i }

pub same_way : (p q : Place) → way_to p ≡ way_to q → p ≡ q
same_way p q e = sym (place_is p) ∙ ap place_in e ∙ place_is q

equal : (o : Ordering) → is_eq o ≡ true → o ≡ Equal
equal Equal h = refl
equal Less h = absurd (cc)
equal Greater h = absurd (cc)

pub places_apart : TellsApart is_same_place
places_apart p q =
    (ap is_eq (tied_itself document_total (way_to p)), λ h. same_way p q (document_same (way_to p) (way_to q) (equal (document_cmp (way_to p) (way_to q)) h)))

-- ---- What a way goes on by

pub rest_of : (p r : List Way) → rest_after p (p ++ r) ≡ Some r
rest_of [] r = refl
rest_of (a ∷ p) r = ap (λ (o : Ordering). cond (is_eq o) (rest_after p (p ++ r)) None) (way_self a) ∙ rest_of p r

-- a way that goes on is made of both
pub goes_on : (p q r : List Way) → rest_after p q ≡ Some r → q ≡ p ++ r
goes_on [] q r h = cc
goes_on (a ∷ p) [] r h = absurd (cc)
goes_on (a ∷ p) (b ∷ q) r h = go (way_cmp a b) refl h (goes_on p q r)
  where
    both : a ≡ b → q ≡ p ++ r → b ∷ q ≡ a ∷ (p ++ r)
    both e f = λ i. sym e i ∷ f i

    go : (o : Ordering) → way_cmp a b ≡ o → cond (is_eq o) (rest_after p q) None ≡ Some r → (rest_after p q ≡ Some r → q ≡ p ++ r)
        → b ∷ q ≡ a ∷ (p ++ r)
    go Equal e g more = both (way_same a b e) (more g)
    go Less e g more = absurd (cc)
    go Greater e g more = absurd (cc)

-- by something; by one step
pub some_rest : {A : Type 0} (o : Option A) → is_some o ≡ true → (r : A) × (o ≡ Some r)
some_rest (Some r) h = (r, refl)
some_rest None h = absurd (cc)

pub one_step : (o : Option (List Way)) → is_step o ≡ true → (a : Way) × (o ≡ Some (a ∷ []))
one_step (Some (a ∷ [])) h = (a, refl)
one_step (Some []) h = absurd (cc)
one_step (Some (a ∷ b ∷ r)) h = absurd (cc)
one_step None h = absurd (cc)

pub child_is_step : (o : Option (List Way)) → is_child_step o ≡ true → (n : ℕ) × (o ≡ Some (ToChild n ∷ []))
child_is_step (Some (ToChild n ∷ [])) h = (n, refl)
child_is_step (Some (ToChild n ∷ b ∷ r)) h = absurd (cc)
child_is_step (Some (ToAttribute n ∷ r)) h = absurd (cc)
child_is_step (Some (ToNamespace n ∷ r)) h = absurd (cc)
child_is_step (Some []) h = absurd (cc)
child_is_step None h = absurd (cc)

pub attribute_is_step : (o : Option (List Way)) → is_attribute_step o ≡ true → (n : ℕ) × (o ≡ Some (ToAttribute n ∷ []))
attribute_is_step (Some (ToAttribute n ∷ [])) h = (n, refl)
attribute_is_step (Some (ToAttribute n ∷ b ∷ r)) h = absurd (cc)
attribute_is_step (Some (ToChild n ∷ r)) h = absurd (cc)
attribute_is_step (Some (ToNamespace n ∷ r)) h = absurd (cc)
attribute_is_step (Some []) h = absurd (cc)
attribute_is_step None h = absurd (cc)

pub longer : (o : Option (List Way)) → is_longer o ≡ true → (a : Way) × (r : List Way) × (o ≡ Some (a ∷ r))
longer (Some (a ∷ r)) h = (a, r, refl)
longer (Some []) h = absurd (cc)
longer None h = absurd (cc)

-- ---- Ends of ways

-- the way without its last step, and the last step
none_is_snoc : (p : List Way) (a : Way) → [] ≡ p ++ a ∷ [] → ⊥
none_is_snoc [] a e = cc
none_is_snoc (b ∷ p) a e = cc

pub no_step_to_root : (p : List Way) (a : Way) (w : List Way) → w ≡ [] → w ≡ p ++ a ∷ [] → ⊥
no_step_to_root p a w e f = none_is_snoc p a (sym e ∙ f)

pub same_last : (p q : List Way) (a b : Way) → p ++ a ∷ [] ≡ q ++ b ∷ [] → (p ≡ q) × (a ≡ b)
same_last [] [] a b e = (refl, cc)
same_last [] (c ∷ q) a b e = let more : [] ≡ q ++ b ∷ [] = cc in absurd (none_is_snoc q b more)
same_last (c ∷ p) [] a b e = let more : [] ≡ p ++ a ∷ [] = cc in absurd (none_is_snoc p a more)
same_last (c ∷ p) (d ∷ q) a b e =
    let first : c ≡ d = cc in
    let more : p ++ a ∷ [] ≡ q ++ b ∷ [] = cc in
    let rest = same_last p q a b more in
    ((λ i. first i ∷ rest.0 i), rest.1)

-- what is above the end of a way is above its last step, or is that end without it
pub within : (p : List Way) (a : Way) (m : List Way) (b : Way) (r : List Way) → p ++ a ∷ [] ≡ m ++ b ∷ r → (s : List Way) × (p ≡ m ++ s)
within p a [] b r e = (p, refl)
within [] a (c ∷ m) b r e = let more : [] ≡ m ++ b ∷ r = cc in absurd (go m more)
  where
    go : (m : List Way) → [] ≡ m ++ b ∷ r → ⊥
    go [] f = cc
    go (d ∷ m) f = cc
within (d ∷ p) a (c ∷ m) b r e =
    let first : d ≡ c = cc in
    let more : p ++ a ∷ [] ≡ m ++ b ∷ r = cc in
    let rest = within p a m b r more in
    (rest.0, λ i. first i ∷ rest.1 i)

-- ---- Only a node of the tree has something one step further

abbrev is_way : List Way → Bool
is_way [] = true
is_way (ToChild n ∷ w) = is_way w
is_way (ToAttribute n ∷ []) = true
is_way (ToAttribute n ∷ a ∷ w) = false
is_way (ToNamespace p ∷ []) = true
is_way (ToNamespace p ∷ a ∷ w) = false

ways_are : (ps : List ℕ) (e : Ending) → is_way (map ToChild ps ++ end_of e) ≡ true
ways_are [] Itself = refl
ways_are [] (AtAttribute n) = refl
ways_are [] (AtNamespace p) = refl
ways_are (n ∷ ps) e = ways_are ps e

before_last : (p : List Way) (a : Way) → is_way (p ++ a ∷ []) ≡ true → is_in_tree p ≡ true
before_last [] a h = refl
before_last (ToChild n ∷ p) a h = before_last p a h
before_last (ToAttribute n ∷ []) a h = absurd (cc)
before_last (ToAttribute n ∷ b ∷ p) a h = absurd (cc)
before_last (ToNamespace n ∷ []) a h = absurd (cc)
before_last (ToNamespace n ∷ b ∷ p) a h = absurd (cc)

pub parent_in_tree : (n : Place) (p : List Way) (a : Way) → way_to n ≡ p ++ a ∷ [] → is_in_tree p ≡ true
parent_in_tree n p a e = before_last p a (ap is_way (sym e) ∙ ways_are n.positions n.ending)
