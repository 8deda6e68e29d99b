-- Numbers (XPath 1.0, 3.5 and 4.4). Of XPath's doubles there are the whole ones up to the last that a double
-- tells from its neighbours, and NaN. An answer that XPath has outside these is refused by a fault. Negative
-- zero is zero.
use Rattle.std.specs.Prelude.{◌≡◌, refl, ◌≤◌, ℕ, ◌+◌, ℤ, pos, ◌+ℤ◌, ◌-ℤ◌, ◌*ℤ◌, neg_ℤ, unsigned_abs, int_div, int_rem, Bool, ◌&&◌, ◌==◌, nat_lt, nat_le, if◌then◌else◌, ◌*◌, ◌-◌, List, [], ◌∷◌, length, drop, take, Option, None, Some, Result, Ok, Err, codes}
use Rattle.std.specs.declared.cmp.Ordering.{Ordering}
use Rattle.std.specs.Ordering.{int_cmp}
use Rattle.std.specs.List.{fold, list_all, prefix_len, suffix_len, before_first, after_first}
use Rattle.std.specs.Char.{is_ascii_digit}
use Rattle.std.specs.Fmt.{signed_decimal}
use Rattle.spec_document.specs.Character.{is_space}

pub data Number : Type 0 where
  Whole : ℤ → Number
  NaN : Number

-- what XPath's answer is, where it is no such number: it has a fraction, is infinite, or is out of range
pub data Fault : Type 0 where
  Fraction : Fault
  Infinite : Fault
  Wide : Fault

-- the greatest whole number; the least is its negative
abbrev pub greatest : ℕ
greatest = 9007199254740991

abbrev pub is_in_range : ℤ → Bool
is_in_range z = nat_le (unsigned_abs z) greatest

abbrev pub IsInRange : ℤ → Type 0
IsInRange z = unsigned_abs z ≤ greatest

-- the number of this value
abbrev pub whole : ℤ → Result Number Fault
whole z = if is_in_range z then Ok (Whole z) else Err Wide

-- the value, where the number is not NaN
abbrev pub value_of : Number → Option ℤ
value_of (Whole z) = Some z
value_of NaN = None

-- the number of this value, and NaN without one
abbrev pub number_from : Option ℤ → Number
number_from (Some z) = Whole z
number_from None = NaN

pub value_of-number_from : (o : Option ℤ) → value_of (number_from o) ≡ o
value_of-number_from (Some z) = refl
value_of-number_from None = refl

-- ---- arithmetic: with NaN it gives NaN
abbrev pub sum_of : Number → Number → Result Number Fault
sum_of (Whole a) (Whole b) = whole (a +ℤ b)
sum_of (Whole a) NaN = Ok NaN
sum_of NaN b = Ok NaN

abbrev pub difference_of : Number → Number → Result Number Fault
difference_of (Whole a) (Whole b) = whole (a -ℤ b)
difference_of (Whole a) NaN = Ok NaN
difference_of NaN b = Ok NaN

abbrev pub product_of : Number → Number → Result Number Fault
product_of (Whole a) (Whole b) = whole (a *ℤ b)
product_of (Whole a) NaN = Ok NaN
product_of NaN b = Ok NaN

abbrev pub is_zero : ℤ → Bool
is_zero z = unsigned_abs z == 0

-- `div`: by zero it is NaN or infinite, and where a rest is left it has a fraction
abbrev pub quotient_of : Number → Number → Result Number Fault
quotient_of (Whole a) (Whole b) =
    if is_zero b then (if is_zero a then Ok NaN else Err Infinite)
    else (if is_zero (int_rem a b) then Ok (Whole (int_div a b)) else Err Fraction)
quotient_of (Whole a) NaN = Ok NaN
quotient_of NaN b = Ok NaN

-- `mod`: what is left of a division that rounds toward zero, so it has the sign of the dividend
abbrev pub remainder_of : Number → Number → Number
remainder_of (Whole a) (Whole b) = if is_zero b then NaN else Whole (int_rem a b)
remainder_of (Whole a) NaN = NaN
remainder_of NaN b = NaN

abbrev pub negation_of : Number → Number
negation_of (Whole a) = Whole (neg_ℤ a)
negation_of NaN = NaN

-- how two numbers compare; NaN compares with none
abbrev pub order_of : Number → Number → Option Ordering
order_of (Whole a) (Whole b) = Some (int_cmp a b)
order_of (Whole a) NaN = None
order_of NaN b = None

-- ---- numerals, which tokens are too (XPath 1.0, production 30)

-- the number that decimal digits spell
abbrev pub decimal : List ℕ → ℕ
decimal digits = fold (λ n c. n * 10 + (c - 0x30)) 0 digits

-- the value of the digits before a point and behind it; a fraction of zeros counts for nothing
abbrev pub numeral : List ℕ → List ℕ → Result ℕ Fault
numeral whole fraction =
    if nat_lt greatest (decimal whole) then Err Wide
    else (if list_all (λ c. c == 0x30) fraction then Ok (decimal whole) else Err Fraction)

-- ---- the number of a string (XPath 1.0, 4.4): white space, `-`, a Number (production 30), white space
abbrev pub is_point : ℕ → Bool
is_point c = c == 0x2E

-- digits, a point and digits; the point may be missing, and one group of digits too
abbrev pub is_numeral : List ℕ → Bool
is_numeral text =
    list_all is_ascii_digit (before_first is_point text) && list_all is_ascii_digit (after_first is_point text)
    && nat_lt 0 (length (before_first is_point text) + length (after_first is_point text))

abbrev pub unsigned : Result ℕ Fault → Result Number Fault
unsigned (Ok value) = Ok (Whole (pos value))
unsigned (Err fault) = Err fault

abbrev pub unsigned_number : List ℕ → Result Number Fault
unsigned_number text = if is_numeral text then unsigned (numeral (before_first is_point text) (after_first is_point text)) else Ok NaN

abbrev pub negated : Result Number Fault → Result Number Fault
negated (Ok n) = Ok (negation_of n)
negated (Err fault) = Err fault

abbrev pub signed_number : List ℕ → Result Number Fault
signed_number [] = Ok NaN
signed_number (c ∷ cs) = if c == 0x2D then negated (unsigned_number cs) else unsigned_number (c ∷ cs)

-- without the white space at both ends
abbrev pub without_front : List ℕ → List ℕ
without_front text = drop (prefix_len is_space text) text

abbrev pub without_end : List ℕ → List ℕ
without_end text = take (length text - suffix_len is_space text) text

abbrev pub trimmed : List ℕ → List ℕ
trimmed text = without_end (without_front text)

unfoldable pub number_of : List ℕ → Result Number Fault
number_of text = signed_number (trimmed text)

-- ---- the string of a number (XPath 1.0, 4.2): decimal digits, after `-` where it is negative
abbrev pub text_of : Number → List ℕ
text_of (Whole z) = signed_decimal z
text_of NaN = codes "NaN"
