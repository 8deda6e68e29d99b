-- Worked examples, as facts that compute.
use Rattle.std.specs.Prelude.{◌≡◌, [], ◌∷◌, Option, None, Some, pos, refl, codes}
use Rattle.std.specs.Fmt.{digits}
use Rattle.unicode.proofs.CategoryComputing.{ucd_category}
use Rattle.spec_expression.specs.Number.{Whole, NaN}
use Rattle.spec_format.specs.Format.{Grouping, grouping_size, letters, roman, split, written}

-- groups of three, with a comma between them
abbrev thousands : Option Grouping
thousands = Some (record { separator = codes ","; size = 3 })

-- letters go on with two behind the last
pub twenty_six_in_capitals : written (split (codes "A")) (Whole (pos 26) ∷ []) None ≡ codes "Z"
unfolding ucd_category letters split written
twenty_six_in_capitals = refl

pub twenty_seven_in_letters : written (split (codes "a")) (Whole (pos 27) ∷ []) None ≡ codes "aa"
unfolding ucd_category letters split written
twenty_seven_in_letters = refl

-- Roman numerals end at 3999
pub nineteen_hundred_ninety_nine : written (split (codes "I")) (Whole (pos 1999) ∷ []) None ≡ codes "MCMXCIX"
unfolding ucd_category roman split written
nineteen_hundred_ninety_nine = refl

pub four_in_small_numerals : written (split (codes "i")) (Whole (pos 4) ∷ []) None ≡ codes "iv"
unfolding ucd_category roman split written
four_in_small_numerals = refl

pub four_thousand : written (split (codes "I")) (Whole (pos 4000) ∷ []) None ≡ codes "4000"
unfolding ucd_category digits split written
four_thousand = refl

-- zeros make a number as long as its token
pub padded_number : written (split (codes "001")) (Whole (pos 7) ∷ []) None ≡ codes "007"
unfolding ucd_category digits split written
padded_number = refl

-- what is below 1, and what is no number, is written in decimal by any token
pub zero_in_capitals : written (split (codes "A")) (Whole (pos 0) ∷ []) None ≡ codes "0"
unfolding ucd_category digits split written
zero_in_capitals = refl

pub no_number : written (split (codes "(001)")) (NaN ∷ []) None ≡ codes "(NaN)"
unfolding ucd_category digits split written
no_number = refl

-- groups are counted from the right, the zeros among them
pub grouped_number : written (split (codes "1")) (Whole (pos 1234567) ∷ []) thousands ≡ codes "1,234,567"
unfolding ucd_category digits split written
grouped_number = refl

pub grouped_zeros : written (split (codes "00001")) (Whole (pos 7) ∷ []) thousands ≡ codes "00,007"
unfolding ucd_category digits split written
grouped_zeros = refl

-- each number takes its token, and a later one the last
pub two_numbers : written (split (codes "1.a")) (Whole (pos 2) ∷ Whole (pos 3) ∷ []) None ≡ codes "2.c"
unfolding ucd_category digits letters split written
two_numbers = refl

pub more_numbers_than_tokens :
    written (split (codes "[1.a-I]")) (Whole (pos 2) ∷ Whole (pos 3) ∷ Whole (pos 4) ∷ Whole (pos 5) ∷ []) None ≡ codes "[2.c-IV-V]"
unfolding ucd_category digits letters roman split written
more_numbers_than_tokens = refl

-- with one token a period stands between numbers; without a token the format is the prefix
pub one_token : written (split (codes "(1)")) (Whole (pos 2) ∷ Whole (pos 3) ∷ []) None ≡ codes "(2.3)"
unfolding ucd_category digits split written
one_token = refl

pub no_token : written (split (codes "--")) (Whole (pos 2) ∷ Whole (pos 3) ∷ []) None ≡ codes "--2.3"
unfolding ucd_category digits split written
no_token = refl

pub nothing_to_write : written (split (codes "(1)")) [] None ≡ []
unfolding written
nothing_to_write = refl

-- tokens are of letters and digits of all scripts, but of no accents; a token of any other form writes decimal, neither padded nor grouped
pub greek_letter : written (split (0x3B1 ∷ codes ")")) (Whole (pos 5) ∷ []) None ≡ codes "5)"
unfolding ucd_category digits split written
greek_letter = refl

pub lone_accent : written (split (0x301 ∷ [])) (Whole (pos 5) ∷ []) None ≡ 0x301 ∷ codes "5"
unfolding ucd_category digits split written
lone_accent = refl

pub other_token : written (split (codes "0001a")) (Whole (pos 1234) ∷ []) thousands ≡ codes "1234"
unfolding ucd_category digits split written
other_token = refl

-- a size is 1 to 9 digits of a value of 1 at least
pub a_size : grouping_size (codes " 03\n") ≡ Some 3
unfolding grouping_size
a_size = refl

pub no_size : grouping_size (codes "000") ≡ None
unfolding grouping_size
no_size = refl

pub too_long_a_size : grouping_size (codes "0000000003") ≡ None
unfolding grouping_size
too_long_a_size = refl

pub a_sign_is_no_digit : grouping_size (codes "+3") ≡ None
unfolding grouping_size
a_sign_is_no_digit = refl
