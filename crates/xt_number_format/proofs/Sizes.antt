-- The value of grouping-size, read a character at a time.
use Rattle.std.proofs.Common.{◌≡◌, ℕ, suc, ◌+◌, ◌-◌, ◌*◌, ◌^◌, ◌<◌, ◌≤◌, Bool, true, false, cond, not, ◌&&◌, ◌==◌, List, [], ◌∷◌, ◌++◌, length, get_or, take, drop, reverse, Option, Some, None, arith, lit<, refl, sym, ap, ◌∙◌, append_assoc, append-nil}
use Rattle.std.proofs.Math.Numerals.{one-add, add-one}
use Rattle.std.proofs.Math.Nat.{pow-suc, pow-le-pow_right}
use Rattle.std.proofs.lemmas.Bool.{cond-true, cond-false, and_parts, lt-ltb, le-leb, lt-leb, not-true, ltb-true, ltb-false, eqb-true, eqb-false}
use Rattle.std.proofs.lemmas.Bool.Decides.{nat_tests}
use Rattle.std.proofs.lemmas.List.{reverse-append, length-reverse, length_push, length-append}
use Rattle.std.proofs.lemmas.List.Folds.{prefix_len-append, list_all-append}
use Rattle.std.proofs.lemmas.List.Sums.{fold_push, prefix_len-le-length}
use Rattle.std.specs.Prelude.{nat_lt, nat_le}
use Rattle.std.specs.List.{list_all, prefix_len, suffix_len}
use Rattle.std.specs.Char.{is_ascii_digit}
use Rattle.spec_document.specs.Character.{is_space}
use Rattle.spec_expression.specs.Number.{decimal, without_front, without_end}
use Rattle.spec_format.specs.Format.{size_from, grouping_size}
use Rattle.std.proofs.lemmas.List.{drop_all}
use Rattle.xt_number_format.proofs.Loops.{rest_more}

-- ---- texts without the white space at their end
all_pass : (p : ℕ → Bool) (xs : List ℕ) → (prefix_len p xs == length xs) ≡ list_all p xs
all_pass p [] = refl
all_pass p (x ∷ xs) = by (p x) (all_pass p xs)
  where
    by : (b : Bool) → (prefix_len p xs == length xs) ≡ list_all p xs → (cond b (1 + prefix_len p xs) 0 == suc (length xs)) ≡ (b && list_all p xs)
    by true rest = same (prefix_len p xs) (length xs) ∙ rest
      where
        same : (m n : ℕ) → (1 + m == suc n) ≡ (m == n)
        same m n = grind (arith, nat_tests)
    by false rest = none (length xs)
      where
        none : (n : ℕ) → (0 == suc n) ≡ false
        none n = grind (arith, nat_tests)

pass_last : (b : Bool) (c : Bool) → (b && (c && true)) ≡ (c && b)
pass_last true true = refl
pass_last true false = refl
pass_last false true = refl
pass_last false false = refl

list_all-reverse : (p : ℕ → Bool) (xs : List ℕ) → list_all p (reverse xs) ≡ list_all p xs
list_all-reverse p [] = refl
list_all-reverse p (x ∷ xs) =
    ap (list_all p) (reverse-append (x ∷ []) xs) ∙ list_all-append p (reverse xs) (x ∷ []) ∙ pass_last (list_all p (reverse xs)) (p x)
    ∙ ap (λ b. p x && b) (list_all-reverse p xs)

suffix_len-cons :
    (c : ℕ) (cs : List ℕ)
    → suffix_len is_space (c ∷ cs) ≡ cond (list_all is_space cs) (length cs + cond (is_space c) (1 + 0) 0) (suffix_len is_space cs)
suffix_len-cons c cs =
    ap (prefix_len is_space) (reverse-append (c ∷ []) cs) ∙ prefix_len-append is_space (reverse cs) (c ∷ [])
    ∙ ap (λ b. cond b (length (reverse cs) + cond (is_space c) (1 + 0) 0) (suffix_len is_space cs))
    (all_pass is_space (reverse cs) ∙ list_all-reverse is_space cs)
    ∙ ap (λ n. cond (list_all is_space cs) (n + cond (is_space c) (1 + 0) 0) (suffix_len is_space cs)) (length-reverse cs)

without_end-cons : (c : ℕ) (cs : List ℕ) → without_end (c ∷ cs) ≡ cond (is_space c && list_all is_space cs) [] (c ∷ without_end cs)
without_end-cons c cs =
    ap (λ n. take (suc (length cs) - n) (c ∷ cs)) (suffix_len-cons c cs)
    ∙ by (is_space c) (list_all is_space cs) (suffix_len is_space cs) (all_pass is_space (reverse cs) ∙ list_all-reverse is_space cs)
    (prefix_len-le-length is_space (reverse cs))
  where
    front : (m n : ℕ) → m ≡ suc n → take m (c ∷ cs) ≡ c ∷ take n cs
    front m n e = ap (λ k. take k (c ∷ cs)) e

    by :
        (b all : Bool) (n : ℕ) → (n == length (reverse cs)) ≡ all → n ≤ length (reverse cs)
        → take (suc (length cs) - cond all (length cs + cond b (1 + 0) 0) n) (c ∷ cs) ≡ cond (b && all) [] (c ∷ take (length cs - n) cs)
    by true true n e l = let none : suc (length cs) - (length cs + 1) ≡ 0 = omega arith in ap (λ k. take k (c ∷ cs)) none
    by false true n e l =
        let whole = eqb-true n (length (reverse cs)) e in
        let none : length cs - n ≡ 0 = omega (arith, length-reverse cs) in
        front _ 0 (omega arith) ∙ ap (λ k. c ∷ take k cs) (sym none)
    by true false n e l = let some = eqb-false n (length (reverse cs)) e in front _ (length cs - n) (grind (arith, length-reverse cs))
    by false false n e l = let some = eqb-false n (length (reverse cs)) e in front _ (length cs - n) (grind (arith, length-reverse cs))

-- ---- which texts are a size
space_no_digit : (c : ℕ) → is_space c ≡ true → is_ascii_digit c ≡ false
space_no_digit c space = grind (arith, nat_tests)

and_false : (b : Bool) → (b && false) ≡ false
and_false true = refl
and_false false = refl

-- of digits, so many, and of another character with what follows it
size_of_digits :
    (ds : List ℕ) (k v : ℕ) → list_all is_ascii_digit ds ≡ true → length ds ≡ k → k ≤ 9 → decimal ds ≡ v
    → size_from ds ≡ cond (nat_lt 0 v) (Some v) None
size_of_digits ds k v all many few value =
    ap (λ b. cond (b && nat_le (length ds) 9 && nat_lt 0 (decimal ds)) (Some (decimal ds)) None) all
    ∙ ap (λ b. cond (b && nat_lt 0 (decimal ds)) (Some (decimal ds)) None) (le-leb (length ds) 9 (omega arith))
    ∙ ap (λ n. cond (nat_lt 0 n) (Some n) None) value

no_size : (ds : List ℕ) → (list_all is_ascii_digit ds && nat_le (length ds) 9) ≡ false → size_from ds ≡ None
no_size ds fails = ap (λ b. cond (b && nat_lt 0 (decimal ds)) (Some (decimal ds)) None) fails

no_size_with : (ds : List ℕ) (c : ℕ) (cs : List ℕ) → is_ascii_digit c ≡ false → size_from (ds ++ c ∷ cs) ≡ None
no_size_with ds c cs other =
    no_size (ds ++ c ∷ cs)
    (ap (λ b. b && nat_le (length (ds ++ c ∷ cs)) 9)
    (list_all-append is_ascii_digit ds (c ∷ cs) ∙ ap (λ b. list_all is_ascii_digit ds && (b && list_all is_ascii_digit cs)) other
    ∙ and_false (list_all is_ascii_digit ds)))

no_size_past : (ds : List ℕ) (k c : ℕ) (cs : List ℕ) → length ds ≡ k → nat_lt k 9 ≡ false → size_from (ds ++ c ∷ cs) ≡ None
no_size_past ds k c cs many past =
    no_size (ds ++ c ∷ cs)
    (ap (λ b. list_all is_ascii_digit (ds ++ c ∷ cs) && b)
    (lt-leb (length (ds ++ c ∷ cs)) 9 (omega (arith, length-append ds (c ∷ cs), ltb-false k 9 past)))
    ∙ and_false (list_all is_ascii_digit (ds ++ c ∷ cs)))

-- ---- the size of a text of which digits of this value are read, so many, and then maybe white space
abbrev pub size_left : Bool → ℕ → ℕ → List ℕ → Option ℕ
size_left is_ended digits size [] = cond (nat_lt 0 size) (Some size) None
size_left is_ended digits size (c ∷ cs) =
    cond (is_space c) (size_left (nat_lt 0 digits) digits size cs)
    (cond (not is_ended && nat_lt digits 9 && is_ascii_digit c) (size_left false (digits + 1) (size * 10 + (c - 0x30)) cs) None)

-- behind white space nothing else may come
after_space :
    (ds cs : List ℕ) (k v : ℕ) → 0 < k → size_from ds ≡ cond (nat_lt 0 v) (Some v) None
    → size_left true k v cs ≡ cond (list_all is_space cs) (size_from ds) None
after_space ds [] k v some size = sym size
after_space ds (c ∷ cs) k v some size = by (is_space c) (after_space ds cs k v some size)
  where
    by :
        (b : Bool) → size_left true k v cs ≡ cond (list_all is_space cs) (size_from ds) None
        → cond b (size_left (nat_lt 0 k) k v cs) None ≡ cond (b && list_all is_space cs) (size_from ds) None
    by true rest = ap (λ b. size_left b k v cs) (lt-ltb 0 k some) ∙ rest
    by false rest = refl

digits_step :
    (c : ℕ) (cs ds : List ℕ) (k v : ℕ) → list_all is_ascii_digit ds ≡ true → length ds ≡ k → 0 < k → k ≤ 9 → decimal ds ≡ v
    → (is_ascii_digit c ≡ true → nat_lt k 9 ≡ true
    → size_left false (k + 1) (v * 10 + (c - 0x30)) cs ≡ size_from ((ds ++ c ∷ []) ++ without_end cs))
    → size_left false k v (c ∷ cs) ≡ size_from (ds ++ without_end (c ∷ cs))
digits_step c cs ds k v all many some few value rest =
    by (is_space c) refl (nat_lt k 9) refl (is_ascii_digit c) refl ∙ sym (ap (λ t. size_from (ds ++ t)) (without_end-cons c cs))
  where
    spaces : is_space c ≡ true → (b : Bool) → cond b (size_from ds) None ≡ size_from (ds ++ cond b [] (c ∷ without_end cs))
    spaces space true = ap size_from (sym (append-nil ds))
    spaces space false = sym (no_size_with ds c (without_end cs) (space_no_digit c space))

    by :
        (s : Bool) → is_space c ≡ s → (below : Bool) → nat_lt k 9 ≡ below → (d : Bool) → is_ascii_digit c ≡ d
        → cond s (size_left (nat_lt 0 k) k v cs) (cond (below && d) (size_left false (k + 1) (v * 10 + (c - 0x30)) cs) None)
        ≡ size_from (ds ++ cond (s && list_all is_space cs) [] (c ∷ without_end cs))
    by true space below b d e =
        ap (λ is_ended. size_left is_ended k v cs) (lt-ltb 0 k some)
        ∙ after_space ds cs k v some (size_of_digits ds k v all many few value) ∙ spaces space (list_all is_space cs)
    by false word true below true digit = rest digit below ∙ ap size_from (append_assoc ds (c ∷ []) (without_end cs))
    by false word true below false other = sym (no_size_with ds c (without_end cs) other)
    by false word false past d e = sym (no_size_past ds k c (without_end cs) many past)

after_digits :
    (cs ds : List ℕ) (k v : ℕ) → list_all is_ascii_digit ds ≡ true → length ds ≡ k → 0 < k → k ≤ 9 → decimal ds ≡ v
    → size_left false k v cs ≡ size_from (ds ++ without_end cs)
after_digits [] ds k v all many some few value = sym (ap size_from (append-nil ds) ∙ size_of_digits ds k v all many few value)
after_digits (c ∷ cs) ds k v all many some few value =
    digits_step c cs ds k v all many some few value
    (λ digit below. after_digits cs (ds ++ c ∷ []) (k + 1) (v * 10 + (c - 0x30))
    (list_all-append is_ascii_digit ds (c ∷ []) ∙ ap (λ b. b && (is_ascii_digit c && true)) all ∙ ap (λ b. b && true) digit)
    (length_push ds c ∙ ap (λ n. n + 1) many) (omega arith) (omega (arith, ltb-true k 9 below))
    (fold_push (λ n d. n * 10 + (d - 0x30)) 0 ds c ∙ ap (λ n. n * 10 + (c - 0x30)) value))

start_step :
    (c : ℕ) (cs : List ℕ) → size_left false 0 0 cs ≡ size_from (without_end (without_front cs))
    → size_left false 0 0 (c ∷ cs) ≡ size_from (without_end (without_front (c ∷ cs)))
start_step c cs rest = by (is_space c) refl (is_ascii_digit c) refl
  where
    front : is_space c ≡ false → without_end (c ∷ cs) ≡ c ∷ without_end cs
    front word = without_end-cons c cs ∙ ap (λ b. cond (b && list_all is_space cs) [] (c ∷ without_end cs)) word

    by :
        (s : Bool) → is_space c ≡ s → (d : Bool) → is_ascii_digit c ≡ d
        → cond s (size_left false 0 0 cs) (cond d (size_left false 1 (0 + (c - 0x30)) cs) None)
        ≡ size_from (without_end (drop (cond s (1 + prefix_len is_space cs) 0) (c ∷ cs)))
    by true space d e = rest ∙ sym (ap (λ n. size_from (without_end (drop n (c ∷ cs)))) (one-add (prefix_len is_space cs)))
    by false word true digit =
        after_digits cs (c ∷ []) 1 (0 + (c - 0x30)) (ap (λ b. b && true) digit) refl (omega arith) (omega arith) refl ∙ sym (ap size_from (front word))
    by false word false other = sym (ap size_from (front word) ∙ no_size_with [] c (without_end cs) other)

at_start : (text : List ℕ) → size_left false 0 0 text ≡ size_from (without_end (without_front text))
at_start [] = refl
at_start (c ∷ cs) = start_step c cs (at_start cs)

-- ---- the loop
pub record Reading (is_ended : Bool) (digits size : ℕ) (rest text : List ℕ) : Type 0 where
  pub few : digits ≤ 9
  pub small : size < 10 ^ digits
  pub left : size_left is_ended digits size rest ≡ grouping_size text

pub starts : (text : List ℕ) → Reading false 0 0 text text
unfolding grouping_size
starts text = record { few = omega arith; small = lit< tt; left = at_start text }

abbrev is_further : Bool → ℕ → ℕ → Bool
is_further is_ended k c = not is_ended && nat_lt k 9 && is_ascii_digit c

-- what a turn leaves, by whether the character is white space and whether it is a further digit
turned :
    (cs all : List ℕ) (is_ended : Bool) (n c k v : ℕ) → (n < length cs) × (c ≡ get_or cs n c) → Reading is_ended k v (drop n cs) all
    → cond (is_space c) (size_left (nat_lt 0 k) k v (drop (n + 1) cs))
    (cond (is_further is_ended k c) (size_left false (k + 1) (v * 10 + (c - 0x30)) (drop (n + 1) cs)) None) ≡ grouping_size all
turned cs all is_ended n c k v turn reading = sym (ap (size_left is_ended k v) (rest_more cs n c turn)) ∙ reading.left

pub space_read :
    (cs all : List ℕ) (is_ended : Bool) (n c k v : ℕ) → (n < length cs) × (c ≡ get_or cs n c) → is_space c ≡ true
    → Reading is_ended k v (drop n cs) all → Reading (nat_lt 0 k) k v (drop (n + 1) cs) all
space_read cs all is_ended n c k v turn space reading = record {
  few = reading.few;
  small = reading.small;
  left = sym (cond-true (is_space c) _ _ space) ∙ turned cs all is_ended n c k v turn reading;
}

pub digit_fits : (is_ended : Bool) (k v c : ℕ) → is_further is_ended k c ≡ true → v < 10 ^ k → v * 10 + (c - 0x30) < 10 ^ (k + 1)
digit_fits is_ended k v c further small =
    let digit = (and_parts (not is_ended && nat_lt k 9) (is_ascii_digit c) further).1 in
    let low : c - 0x30 ≤ 9 = grind (arith, nat_tests) in
    let e : 10 ^ (k + 1) ≡ 10 ^ k * 10 = ap (λ n. 10 ^ n) (add-one k) ∙ pow-suc 10 k in
    omega (arith, e)

pub size_fits : (is_ended : Bool) (k v c : ℕ) → is_further is_ended k c ≡ true → v < 10 ^ k → v * 10 + (c - 0x30) < 2 ^ 32
size_fits is_ended k v c further small =
    let below = (and_parts (not is_ended) (nat_lt k 9) (and_parts (not is_ended && nat_lt k 9) (is_ascii_digit c) further).0).1 in
    let few : k + 1 ≤ 9 = omega (arith, ltb-true k 9 below) in
    let most : 10 ^ (k + 1) ≤ 10 ^ 9 = pow-le-pow_right (lit< tt) few in
    let room : 10 ^ 9 < 2 ^ 32 = lit< tt in
    omega (arith, digit_fits is_ended k v c further small)

pub digit_read :
    (cs all : List ℕ) (is_ended : Bool) (n c k v : ℕ) → (n < length cs) × (c ≡ get_or cs n c) → is_space c ≡ false
    → is_further is_ended k c ≡ true → Reading is_ended k v (drop n cs) all
    → Reading is_ended (k + 1) (v * 10 + (c - 0x30)) (drop (n + 1) cs) all
digit_read cs all is_ended n c k v turn word further reading =
    let parts = and_parts (not is_ended) (nat_lt k 9) (and_parts (not is_ended && nat_lt k 9) (is_ascii_digit c) further).0 in
    record {
      few = omega (arith, ltb-true k 9 parts.1);
      small = digit_fits is_ended k v c further reading.small;
      left = ap (λ b. size_left b (k + 1) (v * 10 + (c - 0x30)) (drop (n + 1) cs)) (not-true is_ended parts.0)
          ∙ sym (cond-false (is_space c) _ _ word ∙ cond-true (is_further is_ended k c) _ _ further) ∙ turned cs all is_ended n c k v turn reading;
    }

pub nothing_read :
    (cs all : List ℕ) (is_ended : Bool) (n c k v : ℕ) → (n < length cs) × (c ≡ get_or cs n c) → is_space c ≡ false
    → is_further is_ended k c ≡ false → Reading is_ended k v (drop n cs) all → None ≡ grouping_size all
nothing_read cs all is_ended n c k v turn word other reading =
    sym (cond-false (is_space c) _ _ word ∙ cond-false (is_further is_ended k c) _ _ other) ∙ turned cs all is_ended n c k v turn reading

pub all_read :
    (cs all : List ℕ) (is_ended : Bool) (n k v : ℕ) → n ≡ length cs → Reading is_ended k v (drop n cs) all
    → cond (nat_lt 0 v) (Some v) None ≡ grouping_size all
all_read cs all is_ended n k v end reading = sym (ap (size_left is_ended k v) (drop_all n cs (omega arith))) ∙ reading.left
