-- The letters of a number by division: those of its twenty-sixth part, and one letter more.
use Rattle.std.proofs.Common.{◌≡◌, ℕ, zero, suc, ◌+◌, ◌-◌, ◌*◌, ◌/◌, ◌%◌, ◌<◌, List, [], ◌∷◌, ◌++◌, reverse, arith, refl, ap, ◌∙◌}
use Rattle.std.proofs.lemmas.Bool.{cond-false, ne_eqb}
use Rattle.std.proofs.lemmas.List.{reverse-append}
use Rattle.spec_format.specs.Format.{counted_on, letters_from_last, letters}

-- a letter before Z is counted on by itself
before_last : (r : ℕ) (cs : List ℕ) → r < 25 → counted_on ((0x41 + r) ∷ cs) ≡ (0x41 + r + 1) ∷ cs
before_last r cs below = cond-false _ _ _ (ne_eqb (0x41 + r) 0x5A (λ e. omega arith))

-- the numbers whose letters are those of q and one letter more
row :
    (q : ℕ) → letters_from_last (suc (26 * q)) ≡ 0x41 ∷ letters_from_last q → (r : ℕ) → r < 26
    → letters_from_last (suc (26 * q + r)) ≡ (0x41 + r) ∷ letters_from_last q
row q begun zero below = let a : suc (26 * q + zero) ≡ suc (26 * q) = omega arith in ap letters_from_last a ∙ begun
row q begun (suc r) below =
    let a : suc (26 * q + suc r) ≡ suc (suc (26 * q + r)) = omega arith in
    let b : 0x41 + r + 1 ≡ 0x41 + suc r = omega arith in
    ap letters_from_last a ∙ ap counted_on (row q begun r (omega arith)) ∙ before_last r (letters_from_last q) (omega arith)
    ∙ ap (λ n. n ∷ letters_from_last q) b

begins : (q : ℕ) → letters_from_last (suc (26 * q)) ≡ 0x41 ∷ letters_from_last q
begins zero = refl
begins (suc q) =
    let a : suc (26 * suc q) ≡ suc (suc (26 * q + 25)) = omega arith in
    let below : 25 < 26 = omega arith in
    ap letters_from_last a ∙ ap counted_on (row q (begins q) 25 below)

pub letters_step : (n : ℕ) → 0 < n → letters n ≡ letters ((n - 1) / 26) ++ (0x41 + (n - 1) % 26) ∷ []
unfolding letters
letters_step n some =
    let q = (n - 1) / 26 in
    let r = (n - 1) % 26 in
    let a : n ≡ suc (26 * q + r) = omega arith in
    let below : r < 26 = omega arith in
    ap (λ m. reverse (letters_from_last m)) a ∙ ap reverse (row q (begins q) r below) ∙ reverse-append ((0x41 + r) ∷ []) (letters_from_last q)

pub no_letters : (n : ℕ) → n ≡ 0 → letters n ≡ []
unfolding letters
no_letters n none = ap (λ m. reverse (letters_from_last m)) none
