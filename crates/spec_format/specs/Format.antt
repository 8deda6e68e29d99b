-- How xsl:number writes a list of numbers by a format (XSLT 1.0, section 7.7.1): what the format is cut into, which token a number takes and what
-- stands before it, and the text of a number by a token, with groups of digits where they are asked for.
use Rattle.std.specs.Prelude.{ℕ, zero, suc, ◌+◌, ◌-◌, ◌/◌, ◌%◌, min, pos, int_lt, unsigned_abs, Bool, true, false, not, ◌&&◌, ◌||◌, ◌==◌, nat_lt, nat_le, if◌then◌else◌, List, [], ◌∷◌, ◌++◌, length, map, replicate, reverse, slice_index_or, bytes_eq, codes, Option, None, Some}
use Rattle.std.specs.List.{flat_map, list_all, list_any}
use Rattle.std.specs.Char.{is_ascii_digit, to_ascii_lowercase}
use Rattle.unicode.specs.GeneralCategory.{general_category}
use Rattle.unicode.specs.GeneralCategoryGroup.{in_group}
use Rattle.unicode.specs.declared.properties.GeneralCategoryGroup.TheVariants as group
use Rattle.spec_expression.specs.Number.{Number, Whole, NaN, decimal, trimmed, text_of}
use Rattle.spec_format.specs.declared.Part.{Part}

-- ---- What a format is cut into

abbrev pub is_empty : List ℕ → Bool
is_empty [] = true
is_empty (c ∷ cs) = false

-- a letter or digit of any script: a character of the classes Lu, Ll, Lt, Lm, Lo, Nd, Nl and No of Unicode
abbrev pub is_alphanumeric : ℕ → Bool
is_alphanumeric c = in_group group.Letter (general_category c) || in_group group.Number (general_category c)

-- the tokens of a text, which are its runs of letters and digits, each with the run of other characters before it, and the run behind the last
pub record Cut : Type 0 where
  pub parts : List (Part (List ℕ))
  pub behind : List ℕ

-- a text that is cut, with another character in front: it belongs to the first run of such characters
abbrev pub with_other : ℕ → List (Part (List ℕ)) → List ℕ → Cut
with_other c [] behind = record { parts = []; behind = c ∷ behind }
with_other c (part ∷ parts) behind = record { parts = record { before = c ∷ part.before; token = part.token } ∷ parts; behind = behind }

-- parts with a letter or digit in front: it belongs to the first token where nothing stands before that, else it is a token of its own
abbrev pub with_alphanumeric : ℕ → List (Part (List ℕ)) → List (Part (List ℕ))
with_alphanumeric c [] = record { before = []; token = c ∷ [] } ∷ []
with_alphanumeric c (part ∷ parts) =
    if is_empty part.before then record { before = []; token = c ∷ part.token } ∷ parts
    else record { before = []; token = c ∷ [] } ∷ part ∷ parts

abbrev pub cut : List ℕ → Cut
cut [] = record { parts = []; behind = [] }
cut (c ∷ cs) =
    let rest = cut cs in
    if is_alphanumeric c then record { parts = with_alphanumeric c rest.parts; behind = rest.behind } else with_other c rest.parts rest.behind

-- a format: what stands before the first number, the token of that, the further tokens, each with the run before it, and what stands behind the
-- last number
pub record Format : Type 0 where
  pub prefix : List ℕ
  pub first : List ℕ
  pub others : List (Part (List ℕ))
  pub suffix : List ℕ

-- without a token all is the prefix, and the token is `1`
abbrev pub format_from : List (Part (List ℕ)) → List ℕ → Format
format_from [] behind = record { prefix = behind; first = codes "1"; others = []; suffix = [] }
format_from (part ∷ parts) behind = record { prefix = part.before; first = part.token; others = parts; suffix = behind }

unfoldable pub split : List ℕ → Format
split text = let whole = cut text in format_from whole.parts whole.behind

-- ---- Groups of digits

-- how digits are grouped, where the attributes grouping-separator and grouping-size are both there
pub record Grouping : Type 0 where
  pub separator : List ℕ
  pub size : ℕ

-- the value of grouping-size, where it is a size: 1 to 9 decimal digits, white space around them aside, of a value of 1 at least
abbrev pub size_from : List ℕ → Option ℕ
size_from digits = if list_all is_ascii_digit digits && nat_le (length digits) 9 && nat_lt 0 (decimal digits) then Some (decimal digits) else None

unfoldable pub grouping_size : List ℕ → Option ℕ
grouping_size text = size_from (trimmed text)

-- groups are counted from the right: the separator follows a digit where the digits behind that are whole groups, one at least
abbrev pub ends_group : ℕ → ℕ → Bool
ends_group size behind = nat_lt 0 behind && behind % size == 0

abbrev pub grouped : Grouping → List ℕ → List ℕ
grouped grouping [] = []
grouped grouping (d ∷ ds) = d ∷ (if ends_group grouping.size (length ds) then grouping.separator else []) ++ grouped grouping ds

abbrev pub grouped_by : Option Grouping → List ℕ → List ℕ
grouped_by None digits = digits
grouped_by (Some grouping) digits = grouped grouping digits

-- ---- Numbers from 1 on, by a token

-- a decimal token is `1`, with any number of zeros before it
abbrev pub is_decimal : List ℕ → Bool
is_decimal [] = false
is_decimal (c ∷ cs) = if c == 0x30 then is_decimal cs else bytes_eq (c ∷ cs) (codes "1")

-- digits with as many zeros before them as make them this long
abbrev pub padded : ℕ → List ℕ → List ℕ
padded width digits = replicate (width - length digits) 0x30 ++ digits

-- the sequence A, B, .., Z, AA, AB, ..: the letters of a number are those of the number before it, counted on. They stand with the last one first
-- here: behind Z comes A again, and the letter before it is counted on
abbrev pub counted_on : List ℕ → List ℕ
counted_on [] = codes "A"
counted_on (c ∷ cs) = if c == 0x5A then 0x41 ∷ counted_on cs else (c + 1) ∷ cs

abbrev pub letters_from_last : ℕ → List ℕ
letters_from_last zero = []
letters_from_last (suc n) = counted_on (letters_from_last n)

unfoldable pub letters : ℕ → List ℕ
letters n = reverse (letters_from_last n)

-- a Roman numeral: an M for each thousand, and then a word for the decimal digit of the hundreds, of the tens and of the ones
abbrev pub hundreds : List (List ℕ)
hundreds =
    [] ∷ codes "C" ∷ codes "CC" ∷ codes "CCC" ∷ codes "CD" ∷ codes "D" ∷ codes "DC" ∷ codes "DCC" ∷ codes "DCCC" ∷ codes "CM" ∷ []

abbrev pub tens : List (List ℕ)
tens = [] ∷ codes "X" ∷ codes "XX" ∷ codes "XXX" ∷ codes "XL" ∷ codes "L" ∷ codes "LX" ∷ codes "LXX" ∷ codes "LXXX" ∷ codes "XC" ∷ []

abbrev pub ones : List (List ℕ)
ones = [] ∷ codes "I" ∷ codes "II" ∷ codes "III" ∷ codes "IV" ∷ codes "V" ∷ codes "VI" ∷ codes "VII" ∷ codes "VIII" ∷ codes "IX" ∷ []

unfoldable pub roman : ℕ → List ℕ
roman n =
    replicate (n / 1000) 0x4D ++ slice_index_or hundreds (n / 100 % 10) [] ++ slice_index_or tens (n / 10 % 10) [] ++ slice_index_or ones (n % 10) []

-- by a token of any other form a number is written in decimal, and so is one over 3999 by `I` and `i`: neither padded nor grouped
abbrev pub counted_text : Option Grouping → List ℕ → ℕ → List ℕ
counted_text grouping token n =
    if is_decimal token then grouped_by grouping (padded (length token) (text_of (Whole (pos n))))
    else (if bytes_eq token (codes "A") then letters n
    else (if bytes_eq token (codes "a") then map to_ascii_lowercase (letters n)
    else (if bytes_eq token (codes "I") && nat_le n 3999 then roman n
    else (if bytes_eq token (codes "i") && nat_le n 3999 then map to_ascii_lowercase (roman n)
    else text_of (Whole (pos n))))))

-- ---- Lists of numbers

-- a number by a token: by any token NaN and what is below 1 are written in decimal
abbrev pub number_text : Option Grouping → List ℕ → Number → List ℕ
number_text grouping token (Whole z) = if int_lt (pos 0) z then counted_text grouping token (unsigned_abs z) else text_of (Whole z)
number_text grouping token NaN = text_of NaN

-- the token of a number behind the first, by its place behind that, and what stands before it: those of the part in this place, or of the last
-- part; a period and the first token where there is no other
abbrev pub part_at : Format → ℕ → Part (List ℕ)
part_at format place = slice_index_or format.others (min place (length format.others - 1)) (record { before = codes "."; token = format.first })

-- the numbers from this place on
abbrev pub others_written : Option Grouping → Format → ℕ → List Number → List ℕ
others_written grouping format place [] = []
others_written grouping format place (n ∷ ns) =
    let part = part_at format place in part.before ++ number_text grouping part.token n ++ others_written grouping format (place + 1) ns

-- a list without a number writes nothing, neither prefix nor suffix
unfoldable pub written : Format → List Number → Option Grouping → List ℕ
written format [] grouping = []
written format (n ∷ ns) grouping = format.prefix ++ number_text grouping format.first n ++ others_written grouping format 0 ns ++ format.suffix

-- ---- What the laws say of a text that is cut

-- all that it was cut into, in its order
abbrev pub joined : Cut → List ℕ
joined whole = flat_map (λ part. part.before ++ part.token) whole.parts ++ whole.behind

-- a run of letters and digits, one at least
abbrev pub is_token : List ℕ → Bool
is_token run = not (is_empty run) && list_all is_alphanumeric run

-- a run without letters and digits, which may be empty
abbrev pub is_between : List ℕ → Bool
is_between run = not (list_any is_alphanumeric run)
