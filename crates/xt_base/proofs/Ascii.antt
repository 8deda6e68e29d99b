-- What has a number is ASCII, so that the bytes of a text have the number of its characters.
use Rattle.std.proofs.Common.{◌≡◌, ℕ, zero, suc, ◌+◌, ◌-◌, ◌<◌, ◌≤◌, Bool, true, false, ◌&&◌, not, cond, List, [], ◌∷◌, length, get_or, take, drop, reverse, ◌⊎◌, inl, inr, Ok, Result, arith, refl, sym, ap, ◌∙◌, eqb}
use Rattle.std.proofs.Math.Numerals.{one-add, add-one}
use Rattle.std.specs.List.{list_all, prefix_len, suffix_len, before_first, after_first, position_or_len}
use Rattle.std.specs.Char.{is_ascii_digit}
use Rattle.std.specs.Str.{IsAscii, IsUtf8, chars}
use Rattle.std.proofs.lemmas.Str.{chars-IsAscii, encodes-IsAscii, encodes-chars}
use Rattle.std.proofs.lemmas.Bool.{cases_lt, cases_Bool, and_parts}
use Rattle.std.proofs.lemmas.Bool.Decides.{nat_tests}
use Rattle.std.proofs.lemmas.List.Sums.{prefix_len_passes, suffix_len-le-length}
use Rattle.std.proofs.lemmas.List.{get_or-reverse, get_or-take, get_or_past}
use Rattle.spec_document.specs.Character.{is_space}
use Rattle.spec_expression.specs.Number.{Number, NaN, Fault, is_point, is_numeral, unsigned_number, signed_number, negated, without_front, without_end, trimmed, number_of}

digit_small : (c : ℕ) → is_ascii_digit c ≡ true → c < 128
digit_small c h = grind (arith, nat_tests)

point_small : (c : ℕ) → is_point c ≡ true → c < 128
point_small c h = grind (arith, nat_tests)

space_small : (c : ℕ) → is_space c ≡ true → c < 128
space_small c h = grind (arith, nat_tests)

IsAscii-nil : IsAscii []
IsAscii-nil i = omega arith

IsAscii-cons : (c : ℕ) (cs : List ℕ) → c < 128 → IsAscii cs → IsAscii (c ∷ cs)
IsAscii-cons c cs small rest zero = small
IsAscii-cons c cs small rest (suc i) = rest i

IsAscii-digits : (cs : List ℕ) → list_all is_ascii_digit cs ≡ true → IsAscii cs
IsAscii-digits [] h = IsAscii-nil
IsAscii-digits (c ∷ cs) h =
    let parts = and_parts (is_ascii_digit c) (list_all is_ascii_digit cs) h in
    IsAscii-cons c cs (digit_small c parts.0) (IsAscii-digits cs parts.1)

parts_step :
    (c n : ℕ) (cs : List ℕ) (b : Bool) → is_point c ≡ b → list_all is_ascii_digit (take (cond (not b) (1 + n) 0) (c ∷ cs)) ≡ true
    → list_all is_ascii_digit (drop (cond (not b) (1 + n) 0 + 1) (c ∷ cs)) ≡ true
    → (list_all is_ascii_digit (take n cs) ≡ true → list_all is_ascii_digit (drop (n + 1) cs) ≡ true → IsAscii cs) → IsAscii (c ∷ cs)
parts_step c n cs true e whole fraction rest = IsAscii-cons c cs (point_small c e) (IsAscii-digits cs fraction)
parts_step c n cs false e whole fraction rest =
    let w = and_parts (is_ascii_digit c) (list_all is_ascii_digit (take n cs)) (rw one-add at whole) in
    IsAscii-cons c cs (digit_small c w.0) (rest w.1 (rw add-one (rw (one-add, add-one) at fraction)))

IsAscii-parts : (text : List ℕ) → list_all is_ascii_digit (before_first is_point text) ≡ true → list_all is_ascii_digit (after_first is_point text) ≡ true → IsAscii text
IsAscii-parts [] whole fraction = IsAscii-nil
IsAscii-parts (c ∷ cs) whole fraction = parts_step c (position_or_len is_point cs) cs (is_point c) refl whole fraction (IsAscii-parts cs)

IsAscii-numeral : (text : List ℕ) → is_numeral text ≡ true → IsAscii text
IsAscii-numeral text h =
    let a = and_parts (list_all is_ascii_digit (before_first is_point text) && list_all is_ascii_digit (after_first is_point text)) _ h in
    let b = and_parts (list_all is_ascii_digit (before_first is_point text)) (list_all is_ascii_digit (after_first is_point text)) a.0 in
    IsAscii-parts text b.0 b.1

abbrev AsciiOrNaN : List ℕ → Result Number Fault → Type 0
AsciiOrNaN text answer = (answer ≡ Ok NaN) ⊎ IsAscii text

unsigned_AsciiOrNaN : (text : List ℕ) → AsciiOrNaN text (unsigned_number text)
unsigned_AsciiOrNaN text =
    elim (cases_Bool (is_numeral text)) [ inl h ↦ inr (IsAscii-numeral text h) | inr h ↦ inl (rw h refl) ]

signed_AsciiOrNaN : (text : List ℕ) → AsciiOrNaN text (signed_number text)
signed_AsciiOrNaN [] = inl refl
signed_AsciiOrNaN (c ∷ cs) = go (eqb c 45) refl
  where
    minus : (answer : Result Number Fault) → AsciiOrNaN cs answer → c < 128 → AsciiOrNaN (c ∷ cs) (negated answer)
    minus answer (inl e) small = inl (ap negated e)
    minus answer (inr a) small = inr (IsAscii-cons c cs small a)

    go : (b : Bool) → eqb c 45 ≡ b → AsciiOrNaN (c ∷ cs) (cond b (negated (unsigned_number cs)) (unsigned_number (c ∷ cs)))
    go true e = minus _ (unsigned_AsciiOrNaN cs) (grind (arith, nat_tests))
    go false e = unsigned_AsciiOrNaN (c ∷ cs)

front_step : (c n : ℕ) (cs : List ℕ) (b : Bool) → is_space c ≡ b → IsAscii (drop (cond b (1 + n) 0) (c ∷ cs)) → (IsAscii (drop n cs) → IsAscii cs) → IsAscii (c ∷ cs)
front_step c n cs true e h rest = IsAscii-cons c cs (space_small c e) (rest (rw one-add at h))
front_step c n cs false e h rest = h

IsAscii-from_front : (text : List ℕ) → IsAscii (without_front text) → IsAscii text
IsAscii-from_front [] h = h
IsAscii-from_front (c ∷ cs) h = front_step c (prefix_len is_space cs) cs (is_space c) refl h (IsAscii-from_front cs)

-- what the end leaves out is white space
at_end : (text : List ℕ) (i : ℕ) → length text - suffix_len is_space text ≤ i → i < length text → is_space (get_or text i 0) ≡ true
at_end text i from below =
    let k = length text - 1 - i in
    let l = suffix_len-le-length is_space text in
    let inside : k < prefix_len is_space (reverse text) = omega arith in
    let same : length text - 1 - k ≡ i = omega arith in
    let e = get_or-reverse text k 0 (omega arith) in
    rw (← same, ← e) (prefix_len_passes is_space (reverse text) k 0 inside)

IsAscii-from_end : (text : List ℕ) → IsAscii (without_end text) → IsAscii text
IsAscii-from_end text h i =
    elim (cases_lt i (length text - suffix_len is_space text)) [
      | inl kept ↦ rw (get_or-take (length text - suffix_len is_space text) text i 0 kept) at (h i)
      | inr past ↦ elim (cases_lt i (length text)) [
        | inl below ↦ space_small _ (at_end text i past below)
        | inr over ↦ rw (get_or_past text i 0 over) (omega arith)
      ]
    ]

IsAscii-from_trimmed : (text : List ℕ) → IsAscii (trimmed text) → IsAscii text
IsAscii-from_trimmed text h = IsAscii-from_front text (IsAscii-from_end (without_front text) h)

number_AsciiOrNaN : (text : List ℕ) → AsciiOrNaN text (number_of text)
unfolding number_of
number_AsciiOrNaN text =
    elim (signed_AsciiOrNaN (trimmed text)) [ inl e ↦ inl e | inr a ↦ inr (IsAscii-from_trimmed text a) ]

-- the bytes of a text have the number of its characters
pub number_of-chars : (bs : List ℕ) → IsUtf8 bs → number_of (chars bs) ≡ number_of bs
number_of-chars bs utf8 =
    elim (number_AsciiOrNaN bs) [
      | inr a ↦ ap number_of (chars-IsAscii bs a)
      | inl e ↦ elim (number_AsciiOrNaN (chars bs)) [
        | inl f ↦ f ∙ sym e
        | inr a ↦ ap number_of (sym (encodes-IsAscii (chars bs) a) ∙ encodes-chars bs utf8)
      ]
    ]
