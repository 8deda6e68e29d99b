-- Digits, and the numbers that they spell.
use Rattle.std.proofs.Common.{◌≡◌, ℕ, zero, suc, ◌+◌, ◌-◌, ◌*◌, ◌≤◌, Bool, true, false, ◌&&◌, cond, min, List, [], ◌∷◌, length, take, map, refl, ap, arith}
use Rattle.std.specs.Prelude.{nat_le}
use Rattle.std.specs.List.{fold, list_all, prefix_len}
use Rattle.std.proofs.lemmas.Bool.Decides.{nat_tests}
use Rattle.spec_compile.specs.Value.{is_within_limits}
use Rattle.spec_expression.specs.Number.{decimal}
use Rattle.spec_expression.specs.Token.{is_digit}

both_pass : (b : Bool) (n m : ℕ) (rest : Bool) → suc n ≤ cond b (1 + m) 0 → (n ≤ m → rest ≡ true) → (b && rest) ≡ true
both_pass true n m rest l h = h (omega (arith, l))
both_pass false n m rest l h = absurd (omega (arith, l))

-- those at the front that were counted
pub all_pass : (p : ℕ → Bool) (n : ℕ) (xs : List ℕ) → n ≤ prefix_len p xs → list_all p (take n xs) ≡ true
all_pass p zero [] l = refl
all_pass p zero (x ∷ xs) l = refl
all_pass p (suc n) [] l = refl
all_pass p (suc n) (x ∷ xs) l = both_pass (p x) n (prefix_len p xs) (list_all p (take n xs)) l (all_pass p n xs)

pub map_same : (xs : List ℕ) → map (λ x. x) xs ≡ xs
map_same [] = refl
map_same (x ∷ xs) = ap (λ ys. x ∷ ys) (map_same xs)

-- ---- Nine digits spell less than a thousand million

abbrev spelled : ℕ → List ℕ → ℕ
spelled n digits = fold (λ n c. n * 10 + (c - 0x30)) n digits

-- so many digits behind a number up to `most` spell no more than `limit`
abbrev Bounded : (count most limit : ℕ) → Type 0
Bounded count most limit = (n : ℕ) (digits : List ℕ) → list_all is_digit digits ≡ true → length digits ≤ count → n ≤ most → spelled n digits ≤ limit

none : (limit : ℕ) → Bounded 0 limit limit
none limit n [] h l m = m
none limit n (c ∷ cs) h l m = absurd (omega (arith, l))

digit_most : (c : ℕ) (rest : Bool) → (is_digit c && rest) ≡ true → (c - 0x30) ≤ 9
digit_most c rest h = grind (arith, nat_tests, h)

rest_pass : (b rest : Bool) → (b && rest) ≡ true → rest ≡ true
rest_pass true rest h = h
rest_pass false rest h = absurd (cc)

more : (count most limit : ℕ) → most ≤ limit → Bounded count (most * 10 + 9) limit → Bounded (count + 1) most limit
more count most limit w f n [] h l m = omega (arith, w, m)
more count most limit w f n (c ∷ cs) h l m =
    f (n * 10 + (c - 0x30)) cs (rest_pass (is_digit c) (list_all is_digit cs) h) (omega (arith, l)) (omega (arith, m, digit_most c (list_all is_digit cs) h))

nine : Bounded 9 0 999999999
nine =
    more 8 0 999999999 (omega arith) (more 7 9 999999999 (omega arith) (more 6 99 999999999 (omega arith) (more 5 999 999999999 (omega arith)
    (more 4 9999 999999999 (omega arith) (more 3 99999 999999999 (omega arith) (more 2 999999 999999999 (omega arith) (more 1 9999999 999999999 (omega arith)
    (more 0 99999999 999999999 (omega arith) (none 999999999)))))))))

pub short : (digits : List ℕ) → list_all is_digit digits ≡ true → length digits ≤ 9 → decimal digits ≤ 999999999
short digits h l = nine 0 digits h l (omega arith)

pub uncapped : (n : ℕ) → n ≤ 999999999 → min n 1000000000 ≡ n
uncapped n h = omega (arith, h)

pub whole_within : (whole fraction : List ℕ) → is_within_limits whole fraction ≡ true → length whole ≤ 9
whole_within whole fraction h = go (nat_le 1 (length whole + length fraction)) (nat_le (length whole) 9) (nat_le (length fraction) 6) refl h
  where
    go : (a b d : Bool) → nat_le (length whole) 9 ≡ b → (a && b && d) ≡ true → length whole ≤ 9
    go true true d e f = grind (arith, nat_tests, e)
    go true false d e f = absurd (cc)
    go false b d e f = absurd (cc)

pub fraction_within : (whole fraction : List ℕ) → is_within_limits whole fraction ≡ true → length fraction ≤ 6
fraction_within whole fraction h = go (nat_le 1 (length whole + length fraction) && nat_le (length whole) 9) (nat_le (length fraction) 6) refl h
  where
    go : (a d : Bool) → nat_le (length fraction) 6 ≡ d → (a && d) ≡ true → length fraction ≤ 6
    go true true e f = grind (arith, nat_tests, e)
    go true false e f = absurd (cc)
    go false d e f = absurd (cc)
