-- The examples of the XPath 1.0 Recommendation on numbers and strings that fall into whole numbers, and the
-- edges of the numbers, as computed facts.
use Rattle.std.proofs.Common.{◌≡◌, pos, negsuc, true, false, [], Some, None, Ok, Err, refl}
use Rattle.std.specs.Prelude.{codes}
use Rattle.std.specs.Fmt.{digits}
use Rattle.std.specs.declared.cmp.Ordering.TheVariants.{Less}
use Rattle.spec_expression.specs.Number.{Whole, NaN, Fraction, Infinite, Wide, sum_of, difference_of, product_of, quotient_of, remainder_of, negation_of, order_of, number_of, text_of}
use Rattle.spec_expression.specs.Strings.{begins_with, is_within, text_before, text_after, substring, normalized, translated, is_language}

-- ---- 3.5
pub mod_of_positives : remainder_of (Whole (pos 5)) (Whole (pos 2)) ≡ Whole (pos 1)
mod_of_positives = refl

pub mod_by_a_negative : remainder_of (Whole (pos 5)) (Whole (negsuc 1)) ≡ Whole (pos 1)
mod_by_a_negative = refl

pub mod_of_a_negative : remainder_of (Whole (negsuc 4)) (Whole (pos 2)) ≡ Whole (negsuc 0)
mod_of_a_negative = refl

pub mod_of_negatives : remainder_of (Whole (negsuc 4)) (Whole (negsuc 1)) ≡ Whole (negsuc 0)
mod_of_negatives = refl

pub mod_by_zero : remainder_of (Whole (pos 5)) (Whole (pos 0)) ≡ NaN
mod_by_zero = refl

pub seven_div_two : quotient_of (Whole (pos 7)) (Whole (pos 2)) ≡ Err Fraction
seven_div_two = refl

pub negative_div_negative : quotient_of (Whole (negsuc 5)) (Whole (negsuc 1)) ≡ Ok (Whole (pos 3))
negative_div_negative = refl

pub one_div_zero : quotient_of (Whole (pos 1)) (Whole (pos 0)) ≡ Err Infinite
one_div_zero = refl

pub zero_div_zero : quotient_of (Whole (pos 0)) (Whole (pos 0)) ≡ Ok NaN
zero_div_zero = refl

pub greatest_and_one : sum_of (Whole (pos 9007199254740991)) (Whole (pos 1)) ≡ Err Wide
greatest_and_one = refl

pub least_less_one : difference_of (Whole (negsuc 9007199254740990)) (Whole (pos 1)) ≡ Err Wide
least_less_one = refl

pub least_times_one : product_of (Whole (negsuc 9007199254740990)) (Whole (pos 1)) ≡ Ok (Whole (negsuc 9007199254740990))
least_times_one = refl

pub minus_zero : negation_of (Whole (pos 0)) ≡ Whole (pos 0)
minus_zero = refl

pub one_below_two : order_of (Whole (pos 1)) (Whole (pos 2)) ≡ Some Less
one_below_two = refl

pub NaN_in_no_order : order_of NaN NaN ≡ None
NaN_in_no_order = refl

-- ---- the number of a string, and the string of a number
pub number_of_spaced : number_of (codes "  12  ") ≡ Ok (Whole (pos 12))
unfolding number_of
number_of_spaced = refl

pub number_of_two : number_of (codes "1 2") ≡ Ok NaN
unfolding number_of
number_of_two = refl

pub number_of_two_signs : number_of (codes "--1") ≡ Ok NaN
unfolding number_of
number_of_two_signs = refl

pub number_of_spaced_sign : number_of (codes "- 1") ≡ Ok NaN
unfolding number_of
number_of_spaced_sign = refl

pub number_of_plus : number_of (codes "+1") ≡ Ok NaN
unfolding number_of
number_of_plus = refl

pub number_of_nothing : number_of [] ≡ Ok NaN
unfolding number_of
number_of_nothing = refl

pub number_of_point : number_of (codes ".") ≡ Ok NaN
unfolding number_of
number_of_point = refl

pub number_of_minus_zero : number_of (codes "-0") ≡ Ok (Whole (pos 0))
unfolding number_of
number_of_minus_zero = refl

pub number_of_last_point : number_of (codes "5.") ≡ Ok (Whole (pos 5))
unfolding number_of
number_of_last_point = refl

pub number_of_first_point : number_of (codes "-.0") ≡ Ok (Whole (pos 0))
unfolding number_of
number_of_first_point = refl

pub number_of_no_fraction : number_of (codes "1.0") ≡ Ok (Whole (pos 1))
unfolding number_of
number_of_no_fraction = refl

pub number_of_fraction : number_of (codes "1.05") ≡ Err Fraction
unfolding number_of
number_of_fraction = refl

pub number_of_two_points : number_of (codes "1.0.0") ≡ Ok NaN
unfolding number_of
number_of_two_points = refl

pub number_of_wide : number_of (codes "-9007199254740992.5") ≡ Err Wide
unfolding number_of
number_of_wide = refl

pub number_of_least : number_of (codes "-009007199254740991.") ≡ Ok (Whole (negsuc 9007199254740990))
unfolding number_of
number_of_least = refl

-- ---- 4.2
pub begins_with_nothing : begins_with (codes "abc") [] ≡ true
begins_with_nothing = refl

pub nothing_within : is_within [] [] ≡ true
nothing_within = refl

pub date_before : text_before (codes "1999/04/01") (codes "/") ≡ codes "1999"
date_before = refl

pub date_after : text_after (codes "1999/04/01") (codes "/") ≡ codes "04/01"
date_after = refl

pub date_after_century : text_after (codes "1999/04/01") (codes "19") ≡ codes "99/04/01"
date_after_century = refl

pub before_none : text_before (codes "abc") (codes "d") ≡ []
before_none = refl

pub substring_counted : substring (codes "12345") (Whole (pos 2)) (Some (Whole (pos 3))) ≡ codes "234"
substring_counted = refl

pub substring_to_end : substring (codes "12345") (Whole (pos 2)) None ≡ codes "2345"
substring_to_end = refl

pub substring_from_zero : substring (codes "12345") (Whole (pos 0)) (Some (Whole (pos 3))) ≡ codes "12"
substring_from_zero = refl

pub substring_from_NaN : substring (codes "12345") NaN (Some (Whole (pos 3))) ≡ []
substring_from_NaN = refl

pub substring_of_NaN : substring (codes "12345") (Whole (pos 1)) (Some NaN) ≡ []
substring_of_NaN = refl

pub substring_from_far : substring (codes "12345") (Whole (negsuc 41)) (Some (Whole (pos 45))) ≡ codes "12"
substring_from_far = refl

pub words_apart : normalized (codes "  a  b ") ≡ codes "a b"
words_apart = refl

pub only_space : normalized (codes " \t\n ") ≡ []
only_space = refl

pub bar : translated (codes "bar") (codes "abc") (codes "ABC") ≡ codes "BAr"
bar = refl

pub dashes : translated (codes "--aaa--") (codes "abc-") (codes "ABC") ≡ codes "AAA"
dashes = refl

pub first_place_counts : translated (codes "a") (codes "aa") (codes "xy") ≡ codes "x"
first_place_counts = refl

-- ---- 4.3
pub english : is_language (codes "en") (codes "EN") ≡ true
english = refl

pub british : is_language (codes "EN-GB") (codes "en") ≡ true
british = refl

pub not_the_wider : is_language (codes "en") (codes "en-gb") ≡ false
not_the_wider = refl

pub not_a_longer_word : is_language (codes "english") (codes "en") ≡ false
not_a_longer_word = refl

pub text_of_negative : text_of (Whole (negsuc 11)) ≡ codes "-12"
unfolding digits
text_of_negative = refl
