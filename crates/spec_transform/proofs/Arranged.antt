-- What a stable sort gives is each put in front of all behind it that do not come before it, and nothing else.
use Rattle.std.proofs.Common.{◌≡◌, refl, sym, ap, ◌∙◌, subst, ℕ, zero, suc, ◌+◌, ◌<◌, ◌≤◌, arith, Bool, true, false, true≢false, not, ◌&&◌, cond, if◌then◌else◌, List, [], ◌∷◌, length, get_or, map, filter}
use Rattle.std.specs.Cmp.{IsStrictWeakOrder}
use Rattle.std.specs.List.Sorted.{IsPermutation, IsSortedBy, IsStableBy, ties}
use Rattle.std.proofs.lemmas.List.Sorted.{sorted_far, IsPermutation-refl, IsPermutation-trans, IsPermutation-cons, IsPermutation-middle}
use Rattle.spec_transform.specs.Sorted.{Criterion, Row, keys_before, put_in, in_order}

-- ---- Lists

head_is : {X : Type 0} (d : X) {x y : X} {xs ys : List X} → x ∷ xs ≡ y ∷ ys → x ≡ y
head_is d e = ap (λ l. get_or l 0 d) e

abbrev tail_of : {X : Type 0} → List X → List X
tail_of [] = []
tail_of (x ∷ xs) = xs

tail_is : {X : Type 0} {x y : X} {xs ys : List X} → x ∷ xs ≡ y ∷ ys → xs ≡ ys
tail_is e = ap tail_of e

abbrev is_some_list : {X : Type 0} → List X → Bool
is_some_list [] = false
is_some_list (x ∷ xs) = true

none_some : {X : Type 0} {x : X} {xs : List X} → x ∷ xs ≡ [] → ⊥
none_some e = true≢false (ap is_some_list e)

kept : {X : Type 0} (b : Bool) (x : X) (xs : List X) → b ≡ true → cond b (x ∷ xs) xs ≡ x ∷ xs
kept b x xs e = ap (λ t. cond t (x ∷ xs) xs) e

-- what is kept of the rest is the same where the first is
rest_kept : {X : Type 0} (b : Bool) (x : X) (xs ys : List X) → cond b (x ∷ xs) xs ≡ cond b (x ∷ ys) ys → xs ≡ ys
rest_kept true x xs ys e = tail_is e
rest_kept false x xs ys e = e

module _ {X : Type 0} (lt : X → X → Bool) (o : IsStrictWeakOrder lt) where
  not_itself : (x : X) → lt x x ≡ false
  not_itself x = by (lt x x) (o.one_way x x)
    where
      by : (b : Bool) → (b ≡ true → b ≡ false) → b ≡ false
      by true h = h refl
      by false h = refl

  tie : (x y : X) → lt x y ≡ false → lt y x ≡ false → ties lt x y ≡ true
  tie x y p q = λ i. not (p i) && not (q i)

  tied_to : (a b : Bool) → not a && not b ≡ true → a ≡ false
  tied_to true b e = sym e
  tied_to false b e = refl

  tied_from : (a b : Bool) → not a && not b ≡ true → b ≡ false
  tied_from true b e = absurd (true≢false (sym e))
  tied_from false true e = sym e
  tied_from false false e = refl

  tie_itself : (x : X) → ties lt x x ≡ true
  tie_itself x = tie x x (not_itself x) (not_itself x)

  -- ---- In order: none comes before one that stands in front of it

  abbrev Above : X → List X → Type 0
  Above x [] = Unit {0}
  Above x (y ∷ ys) = (lt y x ≡ false) × Above x ys

  abbrev Up : List X → Type 0
  Up [] = Unit {0}
  Up (x ∷ xs) = Above x xs × Up xs

  above_of : (x : X) (xs : List X) → ((k : ℕ) → k < length xs → lt (get_or xs k x) x ≡ false) → Above x xs
  above_of x [] h = tt
  above_of x (y ∷ ys) h = (h 0 (omega arith), above_of x ys (λ k p. h (suc k) (omega (arith, p))))

  up_of : (xs : List X) → ((i j : ℕ) (d : X) → i ≤ j → j < length xs → lt (get_or xs j d) (get_or xs i d) ≡ false) → Up xs
  up_of [] h = tt
  up_of (x ∷ xs) h = (above_of x xs (λ k p. h 0 (suc k) x (omega arith) (omega (arith, p))), up_of xs (λ i j d p q. h (suc i) (suc j) d (omega (arith, p)) (omega (arith, q))))

  -- what ties with one of them does not come before what none of them comes before
  not_before : (z y : X) (xs : List X) {w : X} {ws : List X} → Above y xs → filter (ties lt z) xs ≡ w ∷ ws → lt z y ≡ false
  not_before z y [] h e = absurd (none_some (sym e))
  not_before z y (x ∷ xs) {w} {ws} h e = by (ties lt z x) refl e (λ f. not_before z y xs h.1 f)
    where
      by : (b : Bool) → ties lt z x ≡ b → cond b (x ∷ filter (ties lt z) xs) (filter (ties lt z) xs) ≡ w ∷ ws → (filter (ties lt z) xs ≡ w ∷ ws → lt z y ≡ false) → lt z y ≡ false
      by true t f more = o.chain z x y (tied_to (lt z x) (lt x z) t) h.0
      by false t f more = more f

  -- lists in order of which those that tie with one are the same are the same
  same : (ys zs : List X) → Up ys → Up zs → ((x : X) → filter (ties lt x) ys ≡ filter (ties lt x) zs) → ys ≡ zs
  same [] [] u v h = refl
  same [] (z ∷ zs) u v h = absurd (none_some (sym (kept (ties lt z z) z (filter (ties lt z) zs) (tie_itself z)) ∙ sym (h z)))
  same (y ∷ ys) [] u v h = absurd (none_some (sym (kept (ties lt y y) y (filter (ties lt y) ys) (tie_itself y)) ∙ h y))
  same (y ∷ ys) (z ∷ zs) u v h =
      let own : filter (ties lt y) (y ∷ ys) ≡ y ∷ filter (ties lt y) ys = kept (ties lt y y) y _ (tie_itself y) in
      let other : filter (ties lt z) (z ∷ zs) ≡ z ∷ filter (ties lt z) zs = kept (ties lt z z) z _ (tie_itself z) in
      let back : lt z y ≡ false = not_before z y (y ∷ ys) (not_itself y, u.0) (h z ∙ other) in
      let on : lt y z ≡ false = not_before y z (z ∷ zs) (not_itself z, v.0) (sym (h y) ∙ own) in
      let both : filter (ties lt y) (z ∷ zs) ≡ z ∷ filter (ties lt y) zs = kept (ties lt y z) z _ (tie y z on back) in
      let first : y ≡ z = head_is y (sym own ∙ h y ∙ both) in
      let rest : ys ≡ zs = same ys zs u.1 v.1
      (λ x. let At : X → Type 0 = λ w. filter (ties lt x) (y ∷ ys) ≡ filter (ties lt x) (w ∷ zs) in rest_kept (ties lt x y) y _ _ (subst At (sym first) (h x))) in
      λ i. first i ∷ rest i

  -- ---- Each put in its place

  abbrev pub placed : X → List X → List X
  placed r [] = r ∷ []
  placed r (s ∷ more) = if lt s r then s ∷ placed r more else r ∷ s ∷ more

  abbrev pub arranged : List X → List X
  arranged [] = []
  arranged (r ∷ rs) = placed r (arranged rs)

  above_from : (r s : X) (xs : List X) → lt s r ≡ false → Above s xs → Above r xs
  above_from r s [] e h = tt
  above_from r s (x ∷ xs) e h = (o.chain x s r h.0 e, above_from r s xs e h.1)

  above_placed : (s r : X) (xs : List X) → lt r s ≡ false → Above s xs → Above s (placed r xs)
  above_placed s r [] e h = (e, tt)
  above_placed s r (x ∷ xs) e h = by (lt x r) (above_placed s r xs e h.1)
    where
      by : (b : Bool) → Above s (placed r xs) → Above s (if b then x ∷ placed r xs else r ∷ x ∷ xs)
      by true more = (h.0, more)
      by false more = (e, h)

  up_placed : (r : X) (xs : List X) → Up xs → Up (placed r xs)
  up_placed r [] u = (tt, tt)
  up_placed r (s ∷ xs) u = by (lt s r) refl (up_placed r xs u.1)
    where
      by : (b : Bool) → lt s r ≡ b → Up (placed r xs) → Up (if b then s ∷ placed r xs else r ∷ s ∷ xs)
      by true e more = (above_placed s r xs (o.one_way s r e) u.0, more)
      by false e more = ((e, above_from r s xs e u.0), u)

  up_arranged : (xs : List X) → Up (arranged xs)
  up_arranged [] = tt
  up_arranged (r ∷ rs) = up_placed r (arranged rs) (up_arranged rs)

  -- of two of which one comes before the other, not both tie with the same
  untied : (x s r : X) → lt s r ≡ true → ties lt x s ≡ true → ties lt x r ≡ true → ⊥
  untied x s r e p q = true≢false (sym e ∙ o.chain s x r (tied_from (lt x s) (lt s x) p) (tied_to (lt x r) (lt r x) q))

  passed : (a b : Bool) (s r : X) (xs : List X) → (a ≡ true → b ≡ true → ⊥) → cond a (s ∷ cond b (r ∷ xs) xs) (cond b (r ∷ xs) xs) ≡ cond b (r ∷ cond a (s ∷ xs) xs) (cond a (s ∷ xs) xs)
  passed true true s r xs h = absurd (h refl refl)
  passed true false s r xs h = refl
  passed false b s r xs h = refl

  stays_placed : (x r : X) (xs : List X) → filter (ties lt x) (placed r xs) ≡ filter (ties lt x) (r ∷ xs)
  stays_placed x r [] = refl
  stays_placed x r (s ∷ xs) = by (lt s r) refl (stays_placed x r xs)
    where
      by : (b : Bool) → lt s r ≡ b → filter (ties lt x) (placed r xs) ≡ filter (ties lt x) (r ∷ xs)
          → filter (ties lt x) (if b then s ∷ placed r xs else r ∷ s ∷ xs) ≡ filter (ties lt x) (r ∷ s ∷ xs)
      by true e more =
          (λ i. cond (ties lt x s) (s ∷ more i) (more i)) ∙ passed (ties lt x s) (ties lt x r) s r (filter (ties lt x) xs) (untied x s r e)
      by false e more = refl

  pub stays : (x : X) (xs : List X) → filter (ties lt x) (arranged xs) ≡ filter (ties lt x) xs
  stays x [] = refl
  stays x (r ∷ rs) = stays_placed x r (arranged rs) ∙ (λ i. cond (ties lt x r) (r ∷ stays x rs i) (stays x rs i))

  pub arranges : (xs ys : List X) → IsSortedBy lt ys → IsStableBy lt xs ys → ys ≡ arranged xs
  arranges xs ys sorted stable =
      same ys (arranged xs) (up_of ys (sorted_far lt o ys sorted)) (up_arranged xs) (λ x. stable x ∙ sym (stays x xs))

  -- ---- It is such a list

  permuted : (r : X) (xs : List X) → IsPermutation (r ∷ xs) (placed r xs)
  permuted r [] = IsPermutation-refl (r ∷ [])
  permuted r (s ∷ xs) = by (lt s r) (permuted r xs)
    where
      by : (b : Bool) → IsPermutation (r ∷ xs) (placed r xs) → IsPermutation (r ∷ s ∷ xs) (if b then s ∷ placed r xs else r ∷ s ∷ xs)
      by true more =
          IsPermutation-trans (r ∷ s ∷ xs) (s ∷ r ∷ xs) (s ∷ placed r xs) (IsPermutation-middle (r ∷ []) s xs) (IsPermutation-cons s (r ∷ xs) (placed r xs) more)
      by false more = IsPermutation-refl (r ∷ s ∷ xs)

  pub all_there : (xs : List X) → IsPermutation xs (arranged xs)
  all_there [] = IsPermutation-refl []
  all_there (r ∷ rs) =
      IsPermutation-trans (r ∷ rs) (r ∷ arranged rs) (arranged (r ∷ rs)) (IsPermutation-cons r rs (arranged rs) (all_there rs)) (permuted r (arranged rs))

  up_sorted : (xs : List X) → Up xs → (k : ℕ) (d : X) → k + 1 < length xs → lt (get_or xs (k + 1) d) (get_or xs k d) ≡ false
  up_sorted [] u k d p = absurd (omega (arith, p))
  up_sorted (x ∷ []) u k d p = absurd (omega (arith, p))
  up_sorted (x ∷ y ∷ xs) u zero d p = u.0.0
  up_sorted (x ∷ y ∷ xs) u (suc k) d p = let e : suc k + 1 ≡ suc (k + 1) = omega arith in rw e (up_sorted (y ∷ xs) u.1 k d (omega (arith, p)))

  pub in_order_there : (xs : List X) → IsSortedBy lt (arranged xs)
  in_order_there xs k d l p = up_sorted (arranged xs) (up_arranged xs) k d p

  -- ---- Rows

  module _ {N : Type 0} (cs : List Criterion) (row : X → Row N) (before : (x y : X) → lt x y ≡ keys_before cs (row x).keys (row y).keys) where
    rows_placed : (r : X) (xs : List X) → map row (placed r xs) ≡ put_in cs (row r) (map row xs)
    rows_placed r [] = refl
    rows_placed r (s ∷ xs) = by (lt s r) (rows_placed r xs) ∙ (λ i. if before s r i then row s ∷ put_in cs (row r) (map row xs) else row r ∷ row s ∷ map row xs)
      where
        by : (b : Bool) → map row (placed r xs) ≡ put_in cs (row r) (map row xs)
            → map row (if b then s ∷ placed r xs else r ∷ s ∷ xs) ≡ (if b then row s ∷ put_in cs (row r) (map row xs) else row r ∷ row s ∷ map row xs)
        by true more = ap (λ l. row s ∷ l) more
        by false more = refl

    rows_arranged : (xs : List X) → map row (arranged xs) ≡ in_order cs (map row xs)
    rows_arranged [] = refl
    rows_arranged (r ∷ rs) = rows_placed r (arranged rs) ∙ ap (put_in cs (row r)) (rows_arranged rs)

    -- a stable sort by keys
    pub sorts : (xs ys : List X) → IsSortedBy lt ys → IsStableBy lt xs ys → map row ys ≡ in_order cs (map row xs)
    sorts xs ys sorted stable = ap (map row) (arranges xs ys sorted stable) ∙ rows_arranged xs
