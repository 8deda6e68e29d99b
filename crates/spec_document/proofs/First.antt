-- The first element of a list that passes a test, and what stands before and after it.
use Rattle.std.proofs.Common.{◌≡◌, ℕ, ◌+◌, Bool, true, false, ◌||◌, List, [], ◌∷◌, ◌++◌, refl, ap, ◌∙◌, arith, length, take, drop}
use Rattle.std.specs.List.{list_any, before_first, after_first, position_or_len}
use Rattle.std.proofs.Math.Seq.{take-append_seam, drop-append-add}
use Rattle.std.proofs.lemmas.List.{drop_all, take_all}

or_false : (a b : Bool) → (a || b) ≡ false → (a ≡ false) × (b ≡ false)
or_false true b h = absurd (cc)
or_false false b h = (refl, h)

pub position-at : (p : ℕ → Bool) (xs : List ℕ) (y : ℕ) (ys : List ℕ) → list_any p xs ≡ false → p y ≡ true → position_or_len p (xs ++ y ∷ ys) ≡ length xs
position-at p [] y ys h t = rw t refl
position-at p (x ∷ xs) y ys h t =
    let parts = or_false (p x) (list_any p xs) h in
    rw parts.0 (omega (arith, position-at p xs y ys parts.1 t))

pub position-none : (p : ℕ → Bool) (xs : List ℕ) → list_any p xs ≡ false → position_or_len p xs ≡ length xs
position-none p [] h = refl
position-none p (x ∷ xs) h =
    let parts = or_false (p x) (list_any p xs) h in
    rw parts.0 (omega (arith, position-none p xs parts.1))

pub before_first-at : (p : ℕ → Bool) (xs : List ℕ) (y : ℕ) (ys : List ℕ) → list_any p xs ≡ false → p y ≡ true → before_first p (xs ++ y ∷ ys) ≡ xs
before_first-at p xs y ys h t = ap (λ n. take n (xs ++ y ∷ ys)) (position-at p xs y ys h t) ∙ take-append_seam xs (y ∷ ys)

pub after_first-at : (p : ℕ → Bool) (xs : List ℕ) (y : ℕ) (ys : List ℕ) → list_any p xs ≡ false → p y ≡ true → after_first p (xs ++ y ∷ ys) ≡ ys
after_first-at p xs y ys h t = ap (λ n. drop (n + 1) (xs ++ y ∷ ys)) (position-at p xs y ys h t) ∙ drop-append-add xs (y ∷ ys) 1

pub before_first-none : (p : ℕ → Bool) (xs : List ℕ) → list_any p xs ≡ false → before_first p xs ≡ xs
before_first-none p xs h = ap (λ n. take n xs) (position-none p xs h) ∙ take_all (length xs) xs (omega arith)

pub after_first-none : (p : ℕ → Bool) (xs : List ℕ) → list_any p xs ≡ false → after_first p xs ≡ []
after_first-none p xs h = ap (λ n. drop (n + 1) xs) (position-none p xs h) ∙ drop_all (length xs + 1) xs (omega arith)
