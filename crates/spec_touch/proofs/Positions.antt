-- Where nodes stand that stay, seen from the node of the change, and where those that go or come do.
use Rattle.std.proofs.Common.{◌≡◌, ◌<◌, ◌≤◌, arith, ℕ, suc, ◌==◌, Bool, true, false, cond, List, [], ◌∷◌, ◌++◌, map}
use Rattle.std.proofs.Common.{refl, sym, ap, ◌∙◌}
use Rattle.std.specs.Prelude.{◌||◌, nat_lt}
use Rattle.std.specs.List.{list_any}
use Rattle.std.specs.Ordering.{nat_cmp, is_eq}
use Rattle.std.specs.declared.cmp.Ordering.{Ordering}
use Rattle.std.specs.declared.cmp.Ordering.TheVariants.{Less, Equal, Greater}
use Rattle.std.proofs.lemmas.Bool.{eqb-true, ltb-true, ltb-false}
use Rattle.spec_document.specs.Place.{Ending, Itself, AtAttribute, AtNamespace}
use Rattle.spec_document.specs.Order.{Way, ToNamespace, ToAttribute, ToChild, end_of}
use Rattle.spec_document.proofs.Listed.{way_self}
use Rattle.spec_meaning.specs.Naming.{Beside, first, later}
use Rattle.spec_touch.proofs.Ways.{Sorts, none, renamed, itself, Pair, first_ends, second_ends, goes_on, unmoved}

abbrev pub way_from : List ℕ → Ending → List Way
way_from positions ending = map ToChild positions ++ end_of ending

-- ---- Comparing positions

pub cmp-unlike : (m n : ℕ) → (m == n) ≡ false → is_eq (nat_cmp m n) ≡ false
cmp-unlike m n e = (λ i. is_eq (cond (nat_lt m n) Less (cond (e i) Equal Greater))) ∙ by (nat_lt m n)
  where
    by : (b : Bool) → is_eq (cond b Less Greater) ≡ false
    by true = refl
    by false = refl

pub cmp-self : (m : ℕ) → is_eq (nat_cmp m m) ≡ true
cmp-self m = ap is_eq (way_self (ToChild m))

cmp-less : (m n : ℕ) → m < n → nat_cmp m n ≡ Less
cmp-less m n h = by (nat_lt m n) refl
  where
    by : (b : Bool) → nat_lt m n ≡ b → nat_cmp m n ≡ Less
    by true e = λ i. cond (e i) Less (cond (m == n) Equal Greater)
    by false e = absurd (let f = ltb-false m n e in omega arith)

cmp-greater : (m n : ℕ) → n < m → nat_cmp m n ≡ Greater
cmp-greater m n h = by (nat_lt m n) (m == n) refl refl
  where
    by : (b c : Bool) → nat_lt m n ≡ b → (m == n) ≡ c → nat_cmp m n ≡ Greater
    by true c e f = absurd (let g = ltb-true m n e in omega arith)
    by false true e f = absurd (let g = eqb-true m n f in omega arith)
    by false false e f = λ i. cond (e i) Less (cond (f i) Equal Greater)

-- ---- Positions of siblings that stay

-- each is above the one before it
abbrev pub rises_from : ℕ → List ℕ → Type 0
rises_from low [] = Unit {0}
rises_from low (n ∷ ns) = (low ≤ n) × rises_from (suc n) ns

raised : (low : ℕ) {olds news : List ℕ} {m n : ℕ} → rises_from low olds → Beside olds news m n → low ≤ m
raised low h first = h.0
raised low h (later {z = z} b) = let rest = raised (suc z) h.1 b in let own = h.0 in omega arith

lifted : (low : ℕ) {olds news : List ℕ} {m n : ℕ} → rises_from low news → Beside olds news m n → low ≤ n
lifted low h first = h.0
lifted low h (later {w = w} b) = let rest = lifted (suc w) h.1 b in let own = h.0 in omega arith

-- two that stay keep their order
pub keeps-order : (low high : ℕ) {olds news : List ℕ} {m n k l : ℕ} → rises_from low olds → rises_from high news
    → Beside olds news m k → Beside olds news n l → nat_cmp m n ≡ nat_cmp k l
keeps-order low high {m = m} {k = k} o w first first =
    equal (nat_cmp m m) (cmp-self m) ∙ sym (equal (nat_cmp k k) (cmp-self k))
  where
    equal : (c : Ordering) → is_eq c ≡ true → c ≡ Equal
    equal Less e = absurd (cc)
    equal Equal e = refl
    equal Greater e = absurd (cc)
keeps-order low high {m = m} {n = n} {k = k} {l = l} o w first (later b) =
    let r = raised (suc m) o.1 b in let s = lifted (suc k) w.1 b in cmp-less m n (omega arith) ∙ sym (cmp-less k l (omega arith))
keeps-order low high {m = m} {n = n} {k = k} {l = l} o w (later a) first =
    let r = raised (suc n) o.1 a in let s = lifted (suc l) w.1 a in cmp-greater m n (omega arith) ∙ sym (cmp-greater k l (omega arith))
keeps-order low high o w (later a) (later b) = keeps-order _ _ o.1 w.1 a b

-- ---- Where a node stands, seen from the node of the change

pub data Where : Type 0 where
  here : Where
  higher : Where
  child : Where
  elsewhere : Where

-- before and after, where the way leads to the node of the change, and of its children those at these positions before are those at these after
pub data Stands (olds news : List ℕ) : Where → (way old new : List ℕ) → Type 0 where
  is_here : Stands olds news here [] [] []
  is_higher : {q : ℕ} {way : List ℕ} → Stands olds news higher (q ∷ way) [] []
  is_aside : {q m : ℕ} {way rest : List ℕ} → (m == q) ≡ false → Stands olds news elsewhere (q ∷ way) (m ∷ rest) (m ∷ rest)
  is_child : {n k : ℕ} → Beside olds news n k → Stands olds news child [] (n ∷ []) (k ∷ [])
  is_lower : {n k next : ℕ} {rest : List ℕ} → Beside olds news n k → Stands olds news elsewhere [] (n ∷ next ∷ rest) (k ∷ next ∷ rest)
  deeper : {w : Where} {q : ℕ} {way old new : List ℕ} → Stands olds news w way old new → Stands olds news w (q ∷ way) (q ∷ old) (q ∷ new)

-- the same before or after alone, where children at these positions stay
pub data At (kept : List ℕ) : Where → (way positions : List ℕ) → Type 0 where
  at_here : At kept here [] []
  at_higher : {q : ℕ} {way : List ℕ} → At kept higher (q ∷ way) []
  at_aside : {q m : ℕ} {way rest : List ℕ} → (m == q) ≡ false → At kept elsewhere (q ∷ way) (m ∷ rest)
  at_child : {n : ℕ} → list_any (λ k. k == n) kept ≡ true → At kept child [] (n ∷ [])
  at_lower : {n next : ℕ} {rest : List ℕ} → list_any (λ k. k == n) kept ≡ true → At kept elsewhere [] (n ∷ next ∷ rest)
  at_deeper : {w : Where} {q : ℕ} {way positions : List ℕ} → At kept w way positions → At kept w (q ∷ way) (q ∷ positions)

or-left : (a b : Bool) → a ≡ true → (a || b) ≡ true
or-left true b e = refl
or-left false b e = absurd (cc)

or-right : (a b : Bool) → b ≡ true → (a || b) ≡ true
or-right true b e = refl
or-right false b e = e

pub self : (n : ℕ) → (n == n) ≡ true
self n = by (n == n) refl
  where
    by : (b : Bool) → (n == n) ≡ b → (n == n) ≡ true
    by true e = e
    by false e = absurd (let h : true ≡ false = sym (cmp-self n) ∙ cmp-unlike n n e in cc)

among-olds : {olds news : List ℕ} {n k : ℕ} → Beside olds news n k → list_any (λ m. m == n) olds ≡ true
among-olds (first {x = n}) = or-left (n == n) _ (self n)
among-olds (later b) = or-right _ _ (among-olds b)

among-news : {olds news : List ℕ} {n k : ℕ} → Beside olds news n k → list_any (λ m. m == k) news ≡ true
among-news (first {y = k}) = or-left (k == k) _ (self k)
among-news (later b) = or-right _ _ (among-news b)

pub at-old : {olds news : List ℕ} {w : Where} {way old new : List ℕ} → Stands olds news w way old new → At olds w way old
at-old is_here = at_here
at-old is_higher = at_higher
at-old (is_aside e) = at_aside e
at-old (is_child b) = at_child (among-olds b)
at-old (is_lower b) = at_lower (among-olds b)
at-old (deeper s) = at_deeper (at-old s)

pub at-new : {olds news : List ℕ} {w : Where} {way old new : List ℕ} → Stands olds news w way old new → At news w way new
at-new is_here = at_here
at-new is_higher = at_higher
at-new (is_aside e) = at_aside e
at-new (is_child b) = at_child (among-news b)
at-new (is_lower b) = at_lower (among-news b)
at-new (deeper s) = at_deeper (at-new s)

-- ---- Two that stay

data Moved (olds news : List ℕ) : (way old new : List ℕ) → Type 0 where
  ends : {way : List ℕ} → Moved olds news way [] []
  aside : {q m : ℕ} {way rest : List ℕ} → (m == q) ≡ false → Moved olds news (q ∷ way) (m ∷ rest) (m ∷ rest)
  shifted : {n k : ℕ} {rest : List ℕ} → Beside olds news n k → Moved olds news [] (n ∷ rest) (k ∷ rest)
  down : {q : ℕ} {way old new : List ℕ} → Moved olds news way old new → Moved olds news (q ∷ way) (q ∷ old) (q ∷ new)

moved : {olds news : List ℕ} {w : Where} {way old new : List ℕ} → Stands olds news w way old new → Moved olds news way old new
moved is_here = ends
moved is_higher = ends
moved (is_aside e) = aside e
moved (is_child b) = shifted b
moved (is_lower b) = shifted b
moved (deeper s) = down (moved s)

moved-sorts : {olds news : List ℕ} {way old new : List ℕ} (ending : Ending) → Moved olds news way old new
    → Sorts (way_from old ending) (way_from new ending)
moved-sorts ending ends = itself (end_of ending)
moved-sorts ending (aside {m = m} {rest = rest} e) = itself (ToChild m ∷ way_from rest ending)
moved-sorts ending (shifted {rest = rest} b) = renamed (itself (way_from rest ending))
moved-sorts ending (down s) = renamed (moved-sorts ending s)

pub sorts : {olds news : List ℕ} {w : Where} {way old new : List ℕ} (ending : Ending) → Stands olds news w way old new
    → Sorts (way_from old ending) (way_from new ending)
sorts ending s = moved-sorts ending (moved s)

pub unlike-swapped : (m n : ℕ) → (m == n) ≡ false → (n == m) ≡ false
unlike-swapped m n e = by (n == m) refl
  where
    by : (b : Bool) → (n == m) ≡ b → (n == m) ≡ false
    by true f = absurd (let g : false ≡ true = sym e ∙ ap (λ k. m == k) (eqb-true n m f) ∙ self m in cc)
    by false f = f

contradicted : {A : Type 0} (b : Bool) → b ≡ false → b ≡ true → A
contradicted true e f = absurd (cc)
contradicted false e f = absurd (cc)

-- a node itself, or one of its attributes or namespace nodes, beside a way that goes on below it
ended-before : (ending : Ending) {m n : ℕ} {v w : List Way} → Sorts v w
    → Pair (end_of ending) (ToChild m ∷ v) (end_of ending) (ToChild n ∷ w)
ended-before Itself s = first_ends (renamed s)
ended-before (AtAttribute k) s = goes_on refl (itself (ToAttribute k ∷ [])) (renamed s) none s (λ h. absurd (cc))
ended-before (AtNamespace p) s = goes_on refl (itself (ToNamespace p ∷ [])) (renamed s) none s (λ h. absurd (cc))

ended-after : (ending : Ending) {m n : ℕ} {v w : List Way} → Sorts v w
    → Pair (ToChild m ∷ v) (end_of ending) (ToChild n ∷ w) (end_of ending)
ended-after Itself s = second_ends (renamed s)
ended-after (AtAttribute k) s = goes_on refl (renamed s) (itself (ToAttribute k ∷ [])) s none (λ h. absurd (cc))
ended-after (AtNamespace p) s = goes_on refl (renamed s) (itself (ToNamespace p ∷ [])) s none (λ h. absurd (cc))

module _ (olds news : List ℕ) (low high : ℕ) (o : rises_from low olds) (w : rises_from high news) (d e : Ending) where
  moved-pair : {way old new other another : List ℕ} → Moved olds news way old new → Moved olds news way other another
      → Pair (way_from old d) (way_from other e) (way_from new d) (way_from another e)
  moved-pair ends ends = unmoved (end_of d) (end_of e)
  moved-pair ends (aside {m = m} {rest = rest} f) = unmoved (end_of d) (ToChild m ∷ way_from rest e)
  moved-pair ends (shifted {rest = rest} b) = ended-before d (itself (way_from rest e))
  moved-pair ends (down s) = ended-before d (moved-sorts e s)
  moved-pair (aside {m = m} {rest = rest} f) ends = unmoved (ToChild m ∷ way_from rest d) (end_of e)
  moved-pair (aside {m = m} {rest = rest} f) (aside {m = n} {rest = more} g) =
      unmoved (ToChild m ∷ way_from rest d) (ToChild n ∷ way_from more e)
  moved-pair (aside {q = q} {m = m} {rest = rest} f) (down s) =
      goes_on refl (itself (ToChild m ∷ way_from rest d)) (renamed (moved-sorts e s)) (itself (way_from rest d)) (moved-sorts e s)
      (λ h. contradicted (is_eq (nat_cmp m q)) (cmp-unlike m q f) h)
  moved-pair (shifted {rest = rest} b) ends = ended-after e (itself (way_from rest d))
  moved-pair (shifted {rest = rest} a) (shifted {rest = more} b) =
      goes_on (keeps-order low high o w a b) (renamed (itself (way_from rest d))) (renamed (itself (way_from more e)))
      (itself (way_from rest d)) (itself (way_from more e)) (λ _. unmoved (way_from rest d) (way_from more e))
  moved-pair (down s) ends = ended-after e (moved-sorts d s)
  moved-pair (down {q = q} s) (aside {m = m} {rest = rest} f) =
      goes_on refl (renamed (moved-sorts d s)) (itself (ToChild m ∷ way_from rest e)) (moved-sorts d s) (itself (way_from rest e))
      (λ h. contradicted (is_eq (nat_cmp q m)) (cmp-unlike q m (unlike-swapped m q f)) h)
  moved-pair (down s) (down t) =
      goes_on refl (renamed (moved-sorts d s)) (renamed (moved-sorts e t)) (moved-sorts d s) (moved-sorts e t) (λ _. moved-pair s t)

  pub pair : {a b : Where} {way old new other another : List ℕ} → Stands olds news a way old new → Stands olds news b way other another
      → Pair (way_from old d) (way_from other e) (way_from new d) (way_from another e)
  pair s t = moved-pair (moved s) (moved t)
