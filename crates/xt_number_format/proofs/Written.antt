-- Numbers by tokens.
use Rattle.std.proofs.Common.{◌≡◌, ℕ, ◌+◌, ◌<◌, ◌≤◌, Bool, true, false, cond, ◌&&◌, ◌==◌, ◌⊎◌, inl, inr, List, [], ◌∷◌, ◌++◌, length, get_or, drop, map, Option, Some, None, ℤ, pos, append_assoc, append-nil, arith, refl, sym, ap, ◌∙◌}
use Rattle.std.proofs.lemmas.Bool.{cond-true, cond-false, ne_eqb, and_from, and_left, and_right, le-leb, lt-leb}
use Rattle.std.specs.Prelude.{bytes_eq, codes, nat_le, int_lt, unsigned_abs}
use Rattle.std.specs.Char.{to_ascii_lowercase}
use Rattle.std.specs.Str.{chars}
use Rattle.spec_expression.specs.Number.{Number, Whole, NaN, value_of, text_of}
use Rattle.spec_format.specs.Format.{Format, Grouping, is_empty, is_decimal, counted_text, number_text, grouped_by, padded, letters, roman, part_at, others_written, written}
use Rattle.std.proofs.lemmas.List.{drop_all}
use Rattle.xt_number_format.proofs.Loops.{rest_more}

-- whether a token is decimal, of which its `1` is read or not yet
abbrev pub ends : Bool → List ℕ → Bool
ends true rest = is_empty rest
ends false rest = is_decimal rest

equals_nothing : (cs : List ℕ) → bytes_eq cs [] ≡ is_empty cs
equals_nothing [] = refl
equals_nothing (c ∷ cs) = refl

-- what a turn leaves
turned :
    (cs : List ℕ) (n c : ℕ) (all is_ended b : Bool) → (n < length cs) × (c ≡ get_or cs n c) → is_ended ≡ b → ends is_ended (drop n cs) ≡ all
    → ends b (c ∷ drop (n + 1) cs) ≡ all
turned cs n c all is_ended b turn state so_far = sym (ap (λ e. ends e (drop n cs)) state ∙ ap (ends b) (rest_more cs n c turn)) ∙ so_far

pub one_read :
    (cs : List ℕ) (n c : ℕ) (all is_ended : Bool) → (n < length cs) × (c ≡ get_or cs n c) → is_ended ≡ false → c ≡ 0x31
    → ends is_ended (drop n cs) ≡ all → ends true (drop (n + 1) cs) ≡ all
one_read cs n c all is_ended turn fresh one so_far =
    sym (equals_nothing (drop (n + 1) cs)) ∙ ap (λ d. is_decimal (d ∷ drop (n + 1) cs)) (sym one) ∙ turned cs n c all is_ended false turn fresh so_far

pub zero_read :
    (cs : List ℕ) (n c : ℕ) (all is_ended : Bool) → (n < length cs) × (c ≡ get_or cs n c) → is_ended ≡ false → c ≡ 0x30
    → ends is_ended (drop n cs) ≡ all → ends is_ended (drop (n + 1) cs) ≡ all
zero_read cs n c all is_ended turn fresh zeros so_far =
    ap (λ e. ends e (drop (n + 1) cs)) fresh ∙ ap (λ d. is_decimal (d ∷ drop (n + 1) cs)) (sym zeros) ∙ turned cs n c all is_ended false turn fresh so_far

pub other_read :
    (cs : List ℕ) (n c : ℕ) (all is_ended : Bool) → (n < length cs) × (c ≡ get_or cs n c) → is_ended ≡ false → (c ≡ 0x31 → ⊥) → (c ≡ 0x30 → ⊥)
    → ends is_ended (drop n cs) ≡ all → false ≡ all
other_read cs n c all is_ended turn fresh one zeros so_far =
    sym (cond-false (c == 0x30) _ _ (ne_eqb c 0x30 zeros) ∙ ap (λ b. b && bytes_eq (drop (n + 1) cs) []) (ne_eqb c 0x31 one))
    ∙ turned cs n c all is_ended false turn fresh so_far

pub more_read :
    (cs : List ℕ) (n c : ℕ) (all is_ended : Bool) → (n < length cs) × (c ≡ get_or cs n c) → is_ended ≡ true → ends is_ended (drop n cs) ≡ all
    → false ≡ all
more_read cs n c all is_ended turn ended so_far = turned cs n c all is_ended true turn ended so_far

pub all_read : (cs : List ℕ) (n : ℕ) (all is_ended : Bool) → n ≡ length cs → ends is_ended (drop n cs) ≡ all → is_ended ≡ all
all_read cs n all is_ended end so_far = itself is_ended ∙ ap (ends is_ended) (sym (drop_all n cs (omega arith))) ∙ so_far
  where
    itself : (b : Bool) → b ≡ ends b []
    itself true = refl
    itself false = refl

-- ---- a number from 1 on, by which token stands
module _ (grouping : Option Grouping) (token : List ℕ) (n : ℕ) where
  pub by_decimal :
      is_decimal token ≡ true → counted_text grouping token n ≡ grouped_by grouping (padded (length token) (text_of (Whole (pos n))))
  by_decimal decimal = cond-true (is_decimal token) _ _ decimal

  pub by_capital : is_decimal token ≡ false → bytes_eq token (codes "A") ≡ true → counted_text grouping token n ≡ letters n
  by_capital other capital = cond-false (is_decimal token) _ _ other ∙ cond-true (bytes_eq token (codes "A")) _ _ capital

  pub by_small_letter :
      is_decimal token ≡ false → bytes_eq token (codes "A") ≡ false → bytes_eq token (codes "a") ≡ true
      → counted_text grouping token n ≡ map to_ascii_lowercase (letters n)
  by_small_letter other not_A letter =
      cond-false (is_decimal token) _ _ other ∙ cond-false (bytes_eq token (codes "A")) _ _ not_A ∙ cond-true (bytes_eq token (codes "a")) _ _ letter

  not_letters :
      is_decimal token ≡ false → bytes_eq token (codes "A") ≡ false → bytes_eq token (codes "a") ≡ false
      → counted_text grouping token n
      ≡ cond (bytes_eq token (codes "I") && nat_le n 3999) (roman n)
      (cond (bytes_eq token (codes "i") && nat_le n 3999) (map to_ascii_lowercase (roman n)) (text_of (Whole (pos n))))
  not_letters other not_A not_a =
      cond-false (is_decimal token) _ _ other ∙ cond-false (bytes_eq token (codes "A")) _ _ not_A ∙ cond-false (bytes_eq token (codes "a")) _ _ not_a

  pub by_roman :
      is_decimal token ≡ false → bytes_eq token (codes "A") ≡ false → bytes_eq token (codes "a") ≡ false → bytes_eq token (codes "I") ≡ true
      → n ≤ 3999 → counted_text grouping token n ≡ roman n
  by_roman other not_A not_a is_I small =
      not_letters other not_A not_a ∙ cond-true (bytes_eq token (codes "I") && nat_le n 3999) _ _ (and_from _ _ is_I (le-leb n 3999 small))

  not_roman : (b : Bool) → ((b ≡ true) × (3999 < n)) ⊎ (b ≡ false) → (b && nat_le n 3999) ≡ false
  not_roman b (inl past) = and_right b _ (lt-leb n 3999 past.1)
  not_roman b (inr other) = and_left b _ other

  pub by_small_roman :
      is_decimal token ≡ false → bytes_eq token (codes "A") ≡ false → bytes_eq token (codes "a") ≡ false
      → ((bytes_eq token (codes "I") ≡ true) × (3999 < n)) ⊎ (bytes_eq token (codes "I") ≡ false) → bytes_eq token (codes "i") ≡ true
      → n ≤ 3999 → counted_text grouping token n ≡ map to_ascii_lowercase (roman n)
  by_small_roman other not_A not_a not_I is_i small =
      not_letters other not_A not_a ∙ cond-false _ _ _ (not_roman (bytes_eq token (codes "I")) not_I)
      ∙ cond-true (bytes_eq token (codes "i") && nat_le n 3999) _ _ (and_from _ _ is_i (le-leb n 3999 small))

  pub by_other :
      is_decimal token ≡ false → bytes_eq token (codes "A") ≡ false → bytes_eq token (codes "a") ≡ false
      → ((bytes_eq token (codes "I") ≡ true) × (3999 < n)) ⊎ (bytes_eq token (codes "I") ≡ false)
      → ((bytes_eq token (codes "i") ≡ true) × (3999 < n)) ⊎ (bytes_eq token (codes "i") ≡ false)
      → counted_text grouping token n ≡ text_of (Whole (pos n))
  by_other other not_A not_a not_I not_i =
      not_letters other not_A not_a ∙ cond-false _ _ _ (not_roman (bytes_eq token (codes "I")) not_I)
      ∙ cond-false _ _ _ (not_roman (bytes_eq token (codes "i")) not_i)

-- the tokens of one letter are their own characters
pub A_is : chars (codes "A") ≡ codes "A"
unfolding chars
A_is = refl

pub a_is : chars (codes "a") ≡ codes "a"
unfolding chars
a_is = refl

pub I_is : chars (codes "I") ≡ codes "I"
unfolding chars
I_is = refl

pub i_is : chars (codes "i") ≡ codes "i"
unfolding chars
i_is = refl

-- ---- numbers from 1 on, and others
pub positive_text :
    (grouping : Option Grouping) (token : List ℕ) (number : Number) (z x : ℤ) (n : ℕ) → Some z ≡ value_of number → x ≡ z → int_lt (pos 0) x ≡ true
    → n ≡ unsigned_abs x → counted_text grouping token n ≡ number_text grouping token number
positive_text grouping token (Whole w) z x n value same above magnitude =
    let e : x ≡ w = cc in
    ap (counted_text grouping token) (magnitude ∙ ap unsigned_abs e) ∙ sym (cond-true (int_lt (pos 0) w) _ _ (ap (int_lt (pos 0)) (sym e) ∙ above))
positive_text grouping token NaN z x n value same above magnitude = absurd (cc)

pub other_text :
    (grouping : Option Grouping) (token : List ℕ) (number : Number) (z x : ℤ) → Some z ≡ value_of number → x ≡ z → int_lt (pos 0) x ≡ false
    → text_of number ≡ number_text grouping token number
other_text grouping token (Whole w) z x value same below =
    let e : x ≡ w = cc in sym (cond-false (int_lt (pos 0) w) _ _ (ap (int_lt (pos 0)) (sym e) ∙ below))
other_text grouping token NaN z x value same below = refl

pub nan_text :
    (grouping : Option Grouping) (token : List ℕ) (number : Number) → None ≡ value_of number → text_of number ≡ number_text grouping token number
nan_text grouping token (Whole w) none = absurd (cc)
nan_text grouping token NaN none = refl

-- ---- lists of numbers
pub next_written :
    (grouping : Option Grouping) (format : Format) (ns : List Number) (i : ℕ) (n : Number) (text more new before token all : List ℕ)
    → (i < length ns) × (n ≡ get_or ns i n) → before ≡ (part_at format i).before → token ≡ (part_at format i).token → more ≡ text ++ before
    → new ≡ more ++ number_text grouping token n → text ++ others_written grouping format i (drop i ns) ≡ all
    → new ++ others_written grouping format (i + 1) (drop (i + 1) ns) ≡ all
next_written grouping format ns i n text more new before token all turn stands takes put added so_far =
    let rest = others_written grouping format (i + 1) (drop (i + 1) ns) in
    ap (λ t. t ++ rest)
    (added ∙ ap (λ t. t ++ number_text grouping token n) put ∙ append_assoc text before (number_text grouping token n)
    ∙ (λ k. text ++ (stands k ++ number_text grouping (takes k) n)))
    ∙ append_assoc text ((part_at format i).before ++ number_text grouping (part_at format i).token n) rest
    ∙ ap (λ left. text ++ others_written grouping format i left) (sym (rest_more ns i n turn))
    ∙ so_far

pub others_end :
    (grouping : Option Grouping) (format : Format) (ns : List Number) (i : ℕ) (text all : List ℕ) → length ns ≤ i
    → text ++ others_written grouping format i (drop i ns) ≡ all → text ≡ all
others_end grouping format ns i text all end so_far =
    sym (append-nil text) ∙ ap (λ left. text ++ others_written grouping format i left) (sym (drop_all i ns end)) ∙ so_far

pub no_number : (format : Format) (ns : List Number) (grouping : Option Grouping) → length ns ≡ 0 → written format ns grouping ≡ []
unfolding written
no_number format [] grouping none = refl
no_number format (n ∷ ns) grouping none = absurd (omega arith)

pub all_numbers :
    (format : Format) (ns others : List Number) (n : Number) (grouping : Option Grouping) (a b c d e : List ℕ) → ns ≡ n ∷ others → a ≡ []
    → b ≡ a ++ format.prefix → c ≡ b ++ number_text grouping format.first n → d ≡ c ++ others_written grouping format 0 others
    → e ≡ d ++ format.suffix → e ≡ written format ns grouping
unfolding written
all_numbers format ns others n grouping a b c d e parts empty prefixed first rest suffixed =
    suffixed
    ∙ ap (λ t. t ++ format.suffix)
    (rest ∙ ap (λ t. t ++ others_written grouping format 0 others)
    (first ∙ ap (λ t. t ++ number_text grouping format.first n) (prefixed ∙ ap (λ t. t ++ format.prefix) empty)))
    ∙ ap (λ list. written format list grouping) (sym parts)
