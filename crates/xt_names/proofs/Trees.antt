-- Lists of entries in order, parted at an entry as a search tree parts them.
use Rattle.std.proofs.Common.{◌≡◌, Bool, true, false, ◌&&◌, List, [], ◌∷◌, ◌++◌, None, Some, cond, refl, sym, ap, ◌∙◌, subst}
use Rattle.std.specs.Prelude.{T}
use Rattle.std.specs.Ordering.{is_lt, is_eq, ordering_reverse, eq_by_cmp}
use Rattle.std.specs.Cmp.{IsTotalOrder}
use Rattle.std.specs.declared.cmp.Ordering.{Ordering}
use Rattle.std.specs.declared.cmp.Ordering.TheVariants.{Less, Equal, Greater}
use Rattle.std.specs.FinMap.Entries.{put, find, is_sorted, below_all, by_order}

first : (a b : Bool) → T (a && b) → T a
first true b p = tt
first false b p = p

second : (a b : Bool) → T (a && b) → T b
second true b p = p
second false b p = absurd p

both : (a b : Bool) → T a → T b → T (a && b)
both true b p q = q
both false b p q = p

less : (r : Ordering) → T (is_lt r) → r ≡ Less
less Less p = refl
less Equal p = absurd p
less Greater p = absurd p

module _ {K : Type 0} (R : K → K → Ordering) (o : IsTotalOrder R) where
  turned : (x y : K) → R x y ≡ Less → R y x ≡ Greater
  turned x y p = o.antisymm y x ∙ ap ordering_reverse p

  back : (x y : K) → R x y ≡ Greater → R y x ≡ Less
  back x y p = o.antisymm y x ∙ ap ordering_reverse p

  -- a key above another is above each that stands before that
  above : (k x y : K) → R k y ≡ Greater → R x y ≡ Less → R k x ≡ Greater
  above k x y p q = turned x k (o.trans x y k q (back k y p))

  -- a key that ties with another is above each that stands before that
  above_tied : (k x y : K) → R k y ≡ Equal → R x y ≡ Less → R k x ≡ Greater
  above_tied k x y p q = o.congr k y x p ∙ turned x y q

module _ {K X : Type 0} (R : K → K → Ordering) (o : IsTotalOrder R) where
  below_front : (x : K) (xs ys : List (K × X)) → T (below_all R x (xs ++ ys)) → T (below_all R x xs)
  below_front x [] ys h = tt
  below_front x (e ∷ xs) ys h = both _ _ (first _ _ h) (below_front x xs ys (second _ _ h))

  below_at : (x : K) (xs : List (K × X)) (e : K × X) (ys : List (K × X)) → T (below_all R x (xs ++ e ∷ ys)) → R x e.0 ≡ Less
  below_at x [] e ys h = less _ (first _ _ h)
  below_at x (f ∷ xs) e ys h = below_at x xs e ys (second _ _ h)

  pub sorted_front : (xs ys : List (K × X)) → T (is_sorted R (xs ++ ys)) → T (is_sorted R xs)
  sorted_front [] ys h = tt
  sorted_front (x ∷ xs) ys h = both _ _ (below_front x.0 xs ys (first _ _ h)) (sorted_front xs ys (second _ _ h))

  pub sorted_back : (xs : List (K × X)) (e : K × X) (ys : List (K × X)) → T (is_sorted R (xs ++ e ∷ ys)) → T (is_sorted R ys)
  sorted_back [] e ys h = second _ _ h
  sorted_back (x ∷ xs) e ys h = sorted_back xs e ys (second _ _ h)

  pub put-before : (k : K) (v : X) (xs : List (K × X)) (e : K × X) (ys : List (K × X)) → R k e.0 ≡ Less
      → put R k v (xs ++ e ∷ ys) ≡ put R k v xs ++ e ∷ ys
  put-before k v [] e ys p = ap (λ r. by_order r ((k, v) ∷ e ∷ ys) ((e.0, v) ∷ ys) (e ∷ put R k v ys)) p
  put-before k v (x ∷ xs) e ys p =
      elim (R k x.0) as (λ r. by_order r ((k, v) ∷ x ∷ (xs ++ e ∷ ys)) ((x.0, v) ∷ (xs ++ e ∷ ys)) (x ∷ put R k v (xs ++ e ∷ ys))
      ≡ by_order r ((k, v) ∷ x ∷ xs) ((x.0, v) ∷ xs) (x ∷ put R k v xs) ++ e ∷ ys) [
        | Less ↦ refl
        | Equal ↦ refl
        | Greater ↦ ap (λ es. x ∷ es) (put-before k v xs e ys p)
      ]

  pub put-at : ((x y : K) → R x y ≡ Equal → x ≡ y) → (k : K) (v : X) (xs : List (K × X)) (e : K × X) (ys : List (K × X))
      → T (is_sorted R (xs ++ e ∷ ys)) → R k e.0 ≡ Equal
      → put R k v (xs ++ e ∷ ys) ≡ xs ++ (k, v) ∷ ys
  put-at same k v [] e ys h p =
      ap (λ r. by_order r ((k, v) ∷ e ∷ ys) ((e.0, v) ∷ ys) (e ∷ put R k v ys)) p ∙ ap (λ x. (x, v) ∷ ys) (sym (same k e.0 p))
  put-at same k v (x ∷ xs) e ys h p =
      ap (λ r. by_order r ((k, v) ∷ x ∷ (xs ++ e ∷ ys)) ((x.0, v) ∷ (xs ++ e ∷ ys)) (x ∷ put R k v (xs ++ e ∷ ys)))
      (above_tied R o k x.0 e.0 p (below_at x.0 xs e ys (first _ _ h)))
      ∙ ap (λ es. x ∷ es) (put-at same k v xs e ys (second _ _ h) p)

  pub put-after : (k : K) (v : X) (xs : List (K × X)) (e : K × X) (ys : List (K × X)) → T (is_sorted R (xs ++ e ∷ ys)) → R k e.0 ≡ Greater
      → put R k v (xs ++ e ∷ ys) ≡ xs ++ e ∷ put R k v ys
  put-after k v [] e ys h p = ap (λ r. by_order r ((k, v) ∷ e ∷ ys) ((e.0, v) ∷ ys) (e ∷ put R k v ys)) p
  put-after k v (x ∷ xs) e ys h p =
      ap (λ r. by_order r ((k, v) ∷ x ∷ (xs ++ e ∷ ys)) ((x.0, v) ∷ (xs ++ e ∷ ys)) (x ∷ put R k v (xs ++ e ∷ ys)))
      (above R o k x.0 e.0 p (below_at x.0 xs e ys (first _ _ h)))
      ∙ ap (λ es. x ∷ es) (put-after k v xs e ys (second _ _ h) p)

  passed : (q : K) (e : K × X) (es : List (K × X)) (r : Ordering) → R q e.0 ≡ r → is_eq r ≡ false → find R q (e ∷ es) ≡ find R q es
  passed q e es r p n = ap (λ s. cond (is_eq s) (Some e.1) (find R q es)) p ∙ ap (λ b. cond b (Some e.1) (find R q es)) n

  find_below : (q : K) (es : List (K × X)) → T (below_all R q es) → find R q es ≡ None
  find_below q [] h = refl
  find_below q (e ∷ es) h = passed q e es Less (less _ (first _ _ h)) refl ∙ find_below q es (second _ _ h)

  below_less : (q y : K) (es : List (K × X)) → R q y ≡ Less → T (below_all R y es) → T (below_all R q es)
  below_less q y [] p h = tt
  below_less q y (e ∷ es) p h =
      both _ _ (subst (λ r. T (is_lt r)) (sym (o.trans q y e.0 p (less _ (first _ _ h)))) tt) (below_less q y es p (second _ _ h))

  pub find-before : (q : K) (xs : List (K × X)) (e : K × X) (ys : List (K × X)) → T (is_sorted R (xs ++ e ∷ ys)) → R q e.0 ≡ Less
      → find R q (xs ++ e ∷ ys) ≡ find R q xs
  find-before q [] e ys h p = passed q e ys Less p refl ∙ find_below q ys (below_less q e.0 ys p (first _ _ h))
  find-before q (x ∷ xs) e ys h p = ap (λ r. cond (eq_by_cmp R q x.0) (Some x.1) r) (find-before q xs e ys (second _ _ h) p)

  pub find-at : (q : K) (xs : List (K × X)) (e : K × X) (ys : List (K × X)) → T (is_sorted R (xs ++ e ∷ ys)) → R q e.0 ≡ Equal
      → find R q (xs ++ e ∷ ys) ≡ Some e.1
  find-at q [] e ys h p = ap (λ r. cond (is_eq r) (Some e.1) (find R q ys)) p
  find-at q (x ∷ xs) e ys h p =
      passed q x (xs ++ e ∷ ys) Greater (above_tied R o q x.0 e.0 p (below_at x.0 xs e ys (first _ _ h))) refl ∙ find-at q xs e ys (second _ _ h) p

  pub find-after : (q : K) (xs : List (K × X)) (e : K × X) (ys : List (K × X)) → T (is_sorted R (xs ++ e ∷ ys)) → R q e.0 ≡ Greater
      → find R q (xs ++ e ∷ ys) ≡ find R q ys
  find-after q [] e ys h p = passed q e ys Greater p refl
  find-after q (x ∷ xs) e ys h p =
      passed q x (xs ++ e ∷ ys) Greater (above R o q x.0 e.0 p (below_at x.0 xs e ys (first _ _ h))) refl ∙ find-after q xs e ys (second _ _ h) p
