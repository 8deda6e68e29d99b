-- The string functions of XPath (XPath 1.0, 4.2 and 4.3), over texts as lists of characters. Places in a text
-- are counted from 1 where XPath speaks of positions, and else from 0.
use Rattle.std.specs.Prelude.{ℕ, ◌+◌, pos, ◌+ℤ◌, int_le, int_lt, nat_eq, nat_lt, Bool, false, ◌&&◌, ◌||◌, ◌==◌, bytes_eq, List, [], ◌∷◌, ◌++◌, map, length, drop, take, slice_get, is_some, Option, None, Some, option_to_list, Result}
use Rattle.std.specs.List.{starts_with, find, position, range_with_len, filter, enumerate_from, flat_map, join_with_byte, slice_split}
use Rattle.std.specs.Option.{option_map_or}
use Rattle.std.specs.Char.{to_ascii_lowercase}
use Rattle.spec_document.specs.Character.{is_space}
use Rattle.spec_expression.specs.Number.{Number, Whole, NaN, Fault, whole}

-- ---- where one text stands in another
abbrev pub begins_with : List ℕ → List ℕ → Bool
begins_with text start = starts_with nat_eq text start

-- the first of the places 0 to the text's length at which the part stands
abbrev pub first_place : List ℕ → List ℕ → Option ℕ
first_place part text = find (λ place. begins_with (drop place text) part) (range_with_len 0 (length text + 1))

-- `contains`
abbrev pub is_within : List ℕ → List ℕ → Bool
is_within part text = is_some (first_place part text)

-- `substring-before`: what stands before the first place of the part, and nothing where it has none
abbrev pub text_before : List ℕ → List ℕ → List ℕ
text_before text part = option_map_or (λ place. take place text) (first_place part text) []

-- `substring-after`: what stands after it
abbrev pub text_after : List ℕ → List ℕ → List ℕ
text_after text part = option_map_or (λ place. drop (place + length part) text) (first_place part text) []

-- ---- `substring`: the characters at the positions p, from 1 on, with p >= start and, where there is a length,
-- p < start + length. A comparison with NaN is false, and the sum may be out of range
abbrev pub is_from : Number → ℕ → Bool
is_from (Whole a) p = int_le a (pos p)
is_from NaN p = false

abbrev pub is_before_end : Number → Number → ℕ → Bool
is_before_end (Whole a) (Whole b) p = int_lt (pos p) (a +ℤ b)
is_before_end (Whole a) NaN p = false
is_before_end NaN b p = false

abbrev pub is_selected : Number → Option Number → ℕ → Bool
is_selected start None p = is_from start p
is_selected start (Some count) p = is_from start p && is_before_end start count p

abbrev pub characters_at : (ℕ → Bool) → List ℕ → List ℕ
characters_at is_place text = map (λ c. c.1) (filter (λ c. is_place c.0) (enumerate_from 1 text))

abbrev pub substring : List ℕ → Number → Option Number → List ℕ
substring text start count = characters_at (is_selected start count) text

-- ---- `normalize-space`: the words of the text, parted by one space. A word is what stands between white space
abbrev pub is_word : List ℕ → Bool
is_word part = nat_lt 0 (length part)

abbrev pub words : List ℕ → List (List ℕ)
words text = filter is_word (slice_split is_space text)

abbrev pub normalized : List ℕ → List ℕ
normalized text = join_with_byte 0x20 (words text)

-- ---- `translate`: each character by what stands in `to` at its first place in `from`. It stays where it has no
-- place there, and goes where `to` ends before that place
abbrev pub translation_of : List ℕ → List ℕ → ℕ → List ℕ
translation_of from to c = option_map_or (λ place. option_to_list (slice_get to place)) (position (λ d. d == c) from) (c ∷ [])

abbrev pub translated : List ℕ → List ℕ → List ℕ → List ℕ
translated text from to = flat_map (translation_of from to) text

-- ---- `string-length`: how many characters
abbrev pub length_of : List ℕ → Result Number Fault
length_of text = whole (pos (length text))

-- ---- `lang` (XPath 1.0, 4.3): the language is the wanted one, or begins with it and `-`. The case of ASCII
-- letters is ignored
abbrev pub is_language : List ℕ → List ℕ → Bool
is_language language wanted =
    bytes_eq (map to_ascii_lowercase language) (map to_ascii_lowercase wanted)
    || begins_with (map to_ascii_lowercase language) (map to_ascii_lowercase wanted ++ 0x2D ∷ [])
