-- Sizes, read from the bytes of their word.
use Rattle.std.proofs.Common.{◌≡◌, ℕ, ◌^◌, ◌<◌, ◌≤◌, nat_le, Bool, true, false, ◌&&◌, if◌then◌else◌, List, [], ◌∷◌, length, Some, Result, Ok, refl, sym, ap, ◌∙◌, arith, rules}
use Rattle.std.specs.List.{list_all}
use Rattle.std.specs.Str.Parse.{ParsesUnsigned}
use Rattle.std.proofs.lemmas.Bool.{and_parts}
use Rattle.std.proofs.lemmas.Bool.Decides.{nat_tests}
use Rattle.std.proofs.lemmas.Str.Parse.{IsNumeralModel, numerals_by_fold, parse_gives, digits_value_short}
use Rattle.spec_session.specs.declared.kinds.Asked.{Asked}
use Rattle.spec_session.specs.declared.kinds.Asked.TheVariants.{Demonstration, Nothing}
use Rattle.spec_session.specs.Request.{is_digit, number_from}
use Rattle.xt_arguments.specs.Words.{asked_with}

own : IsNumeralModel (λ ds. list_all is_digit ds ≡ true) (number_from 0)
own = numerals_by_fold _ (search rules) number_from (search rules)

-- 1 to 4 digits
abbrev pub is_short : List ℕ → Bool
is_short word = list_all is_digit word && nat_le (length word) 4 && nat_le 1 (length word)

abbrev tested : Bool → Bool → Bool → Bool → ℕ → Asked
tested x y a b n = if x && y && a && b then Demonstration n else Nothing

-- a word that is no number of 1 to 4 digits
pub not_short : (word : List ℕ) → is_short word ≡ false → Nothing ≡ asked_with (Some word)
not_short [] e = refl
not_short (c ∷ cs) e = go (list_all is_digit (c ∷ cs)) (nat_le (length (c ∷ cs)) 4) refl refl
  where
    word : List ℕ
    word = c ∷ cs

    go : (x y : Bool) → list_all is_digit word ≡ x → nat_le (length word) 4 ≡ y → Nothing ≡ asked_with (Some word)
    go true true p q = let one : nat_le 1 (length word) ≡ true = grind (arith, nat_tests) in
        let t : is_short word ≡ true = λ i. p i && q i && one i in absurd (cc)
    go true false p q = sym (λ i. tested (p i) (q i) (nat_le 1 (number_from 0 word)) (nat_le (number_from 0 word) 1000) (number_from 0 word))
    go false y p q = sym (λ i. tested (p i) (q i) (nat_le 1 (number_from 0 word)) (nat_le (number_from 0 word) 1000) (number_from 0 word))

abbrev within : ℕ → Bool
within n = nat_le 1 n && nat_le n 1000

pub parsed : {E : Type 0} (word : List ℕ) (r : Result ℕ E) → ParsesUnsigned 16 10 word r → is_short word ≡ true → r ≡ Ok (number_from 0 word)
parsed word r h short =
    let all = and_parts _ (nat_le 1 (length word)) short in
    let two = and_parts (list_all is_digit word) (nat_le (length word) 4) all.0 in
    let few : length word ≤ 4 = grind (arith, nat_tests) in
    let some : 0 < length word = grind (arith, nat_tests) in
    let small : number_from 0 word < 10 ^ 4 = digits_value_short own word 4 two.0 few in
    parse_gives own 16 word r h two.0 some (omega arith)

sized : (word : List ℕ) → is_short word ≡ true → asked_with (Some word) ≡ (if within (number_from 0 word) then Demonstration (number_from 0 word) else Nothing)
sized word short =
    let all = and_parts _ (nat_le 1 (length word)) short in
    let two = and_parts (list_all is_digit word) (nat_le (length word) 4) all.0 in
    λ i. tested (two.0 i) (two.1 i) (nat_le 1 (number_from 0 word)) (nat_le (number_from 0 word) 1000) (number_from 0 word)

ok_value : {A E : Type 0} (x y : A) (r : Result A E) → r ≡ Ok x → r ≡ Ok y → x ≡ y
ok_value x y r e f = cc

pub in_range : {E : Type 0} (word : List ℕ) (r : Result ℕ E) (size : ℕ) → ParsesUnsigned 16 10 word r → is_short word ≡ true → r ≡ Ok size → within size ≡ true
    → Demonstration size ≡ asked_with (Some word)
in_range word r size h short is inside =
    let e = ok_value size (number_from 0 word) r is (parsed word r h short) in
    ap Demonstration e ∙ (λ i. if sym inside i then Demonstration (number_from 0 word) else Nothing) ∙ (λ i. if within (e i) then Demonstration (number_from 0 word) else Nothing)
    ∙ sym (sized word short)

pub out_of_range : {E : Type 0} (word : List ℕ) (r : Result ℕ E) (size : ℕ) → ParsesUnsigned 16 10 word r → is_short word ≡ true → r ≡ Ok size → within size ≡ false
    → Nothing ≡ asked_with (Some word)
out_of_range word r size h short is outside =
    let e = ok_value size (number_from 0 word) r is (parsed word r h short) in
    (λ i. if sym outside i then Demonstration (number_from 0 word) else Nothing) ∙ (λ i. if within (e i) then Demonstration (number_from 0 word) else Nothing)
    ∙ sym (sized word short)
