-- Paths, read from the bytes of their words.
use Rattle.std.proofs.Common.{◌≡◌, ◌≢◌, ℕ, ◌+◌, ◌^◌, ◌<◌, ◌≤◌, nat_le, ◌==◌, Bool, true, false, ◌&&◌}
use Rattle.std.proofs.Common.{if◌then◌else◌, List, [], ◌∷◌, ◌++◌, length, map, get_or, drop, Option, None, Some, Result, refl, sym, ap}
use Rattle.std.proofs.Common.{◌∙◌, arith, append-nil, append_assoc, rules, lit<}
use Rattle.std.specs.Prelude.{is_some}
use Rattle.std.specs.List.{list_all, slice_split}
use Rattle.std.specs.List as std
use Rattle.std.specs.Option.{option_map, MatchOption}
use Rattle.std.specs.Result.{result_ok}
use Rattle.std.specs.Str.{IsAscii, IsUtf8, chars}
use Rattle.std.specs.Str.Parse.{ParsesUnsigned}
use Rattle.std.proofs.Math.Numerals.{add-one}
use Rattle.std.proofs.Math.Seq.{drop-cons}
use Rattle.std.proofs.lemmas.Bool.{and_parts, and_from}
use Rattle.std.proofs.lemmas.Bool.Decides.{nat_tests}
use Rattle.std.proofs.lemmas.List.{drop_all}
use Rattle.std.proofs.lemmas.Str.{chars-IsAscii, encodes-IsAscii, encodes-chars}
use Rattle.std.proofs.lemmas.Str.Parse.{IsNumeralModel, numerals_by_fold, parse_gives, digits_value_short}
use Rattle.std.proofs.lemmas.Iterator.{YieldsList}
use Rattle.std.proofs.lemmas.Iterator.Splits.{YieldsList-from_str_split}
use Rattle.std.specs.declared.str.Split.{Split}
use Rattle.std.specs.Str.Iter.{split_steps, split_text, split_has_more, split_pattern}
use Rattle.std.specs.Str.Pattern.{FindsChar}
use Rattle.spec_document.specs.Character.{is_between}
use Rattle.spec_document.specs.Forest.{in_front}
use Rattle.spec_session.specs.Request.{is_slash, is_digit, onto_first, parts_of, number_from, position_of, all_there, positions_of, path_of}
use Rattle.xt_wire.proofs.Texts.{IsAscii-nil, IsAscii-cons}
use denote.Ref.{Bor}

-- ---- One position

own : IsNumeralModel (λ ds. list_all is_digit ds ≡ true) (number_from 0)
own = numerals_by_fold _ (search rules) number_from (search rules)

first_is_digit : (c : ℕ) → is_between 0x31 0x39 c ≡ true → is_digit c ≡ true
first_is_digit c h = grind (arith, nat_tests)

-- what a text of these parts of the test is read as
abbrev tested : Bool → Bool → Bool → ℕ → List ℕ → Option ℕ
tested x y z c cs = if x && y && z then Some (number_from 0 (c ∷ cs)) else None

-- at most 18 digits are in the range of 64 bits
in_range : (c : ℕ) (cs : List ℕ) → list_all is_digit (c ∷ cs) ≡ true → nat_le (length cs) 17 ≡ true → number_from 0 (c ∷ cs) < 2 ^ 64
in_range c cs digits few =
    let short : length (c ∷ cs) ≤ 18 = grind (arith, nat_tests) in
    omega (arith, digits_value_short own (c ∷ cs) 18 digits short)

pub position_parsed : {E : Type 0} (bs : List ℕ) (r : Result ℕ E) → ParsesUnsigned 64 10 bs r → is_some (position_of bs) ≡ true
    → result_ok r ≡ position_of bs
position_parsed [] r h e = absurd (cc)
position_parsed (c ∷ cs) r h e = go (is_between 0x31 0x39 c) (list_all is_digit cs) (nat_le (length cs) 17) refl refl refl e
  where
    go : (x y z : Bool) → is_between 0x31 0x39 c ≡ x → list_all is_digit cs ≡ y → nat_le (length cs) 17 ≡ z
        → is_some (tested x y z c cs) ≡ true → result_ok r ≡ tested x y z c cs
    go true true true p q l t =
        let digits = and_from (is_digit c) (list_all is_digit cs) (first_is_digit c p) q in
        ap result_ok (parse_gives own 64 (c ∷ cs) r h digits (omega arith) (in_range c cs digits l))
    go true true false p q l t = absurd (cc)
    go true false z p q l t = absurd (cc)
    go false y z p q l t = absurd (cc)

-- ---- The positions between slashes

abbrev pub positions : List (List ℕ) → Option (List ℕ)
positions parts = all_there (map position_of parts)

-- what is read, and what is read of the rest
abbrev pub behind : List ℕ → Option (List ℕ) → Option (List ℕ)
behind path rest = option_map (λ more. path ++ more) rest

onto : (c : ℕ) (parts : List (List ℕ)) → onto_first c parts ≡ std.onto_first c parts
onto c [] = refl
onto c (part ∷ parts) = refl

pub parts_split : (cs : List ℕ) → parts_of cs ≡ slice_split is_slash cs
parts_split [] = refl
parts_split (c ∷ cs) =
    ap (λ (parts : List (List ℕ)). if is_slash c then [] ∷ parts else onto_first c parts) (parts_split cs)
    ∙ ap (λ (parts : List (List ℕ)). if is_slash c then [] ∷ slice_split is_slash cs else parts) (onto c (slice_split is_slash cs))

-- what `split` gives
pub parts_given : (text : List ℕ) (from split : Split ℕ) → from ≡ split → split_text split ≡ text → split_has_more split ≡ true
    → split_pattern split ≡ 0x2F
    → YieldsList (split_steps FindsChar (λ a b. b ≡ a)) (λ part. part.now) from (slice_split is_slash text)
parts_given text from split e t m p =
    YieldsList-from_str_split 0x2F text (lit< tt) (ap split_text e ∙ t) (ap split_has_more e ∙ m) (ap split_pattern e ∙ p)

rest_more : (all : List (List ℕ)) (n : ℕ) (part : List ℕ) → (n < length all) × (part ≡ get_or all n part)
    → drop n all ≡ part ∷ drop (n + 1) all
rest_more all n part turn = drop-cons all n part turn.0 ∙ rw (← turn.1, add-one) refl

one_more : (path : List ℕ) (position : ℕ) (rest : Option (List ℕ))
    → behind path (in_front (Some position) rest) ≡ behind (path ++ position ∷ []) rest
one_more path position None = refl
one_more path position (Some more) = ap Some (sym (append_assoc path (position ∷ []) more))

pub at_start : (path : List ℕ) (rest : Option (List ℕ)) → path ≡ [] → rest ≡ behind path rest
at_start path None e = refl
at_start path (Some more) e = ap Some (ap (λ (p : List ℕ). p ++ more) (sym e))

pub position_more : (all : List (List ℕ)) (path new part : List ℕ) (n position : ℕ) → (n < length all) × (part ≡ get_or all n part)
    → Some position ≡ position_of part
    → new ≡ path ++ position ∷ [] → positions all ≡ behind path (positions (drop n all))
    → positions all ≡ behind new (positions (drop (n + 1) all))
position_more all path new part n position turn is e so_far =
    so_far ∙ ap (λ (parts : List (List ℕ)). behind path (positions parts)) (rest_more all n part turn)
    ∙ ap (λ (o : Option ℕ). behind path (in_front o (positions (drop (n + 1) all)))) (sym is)
    ∙ one_more path position (positions (drop (n + 1) all)) ∙ ap (λ (p : List ℕ). behind p (positions (drop (n + 1) all))) (sym e)

pub no_position : (all : List (List ℕ)) (path part : List ℕ) (n : ℕ) → (n < length all) × (part ≡ get_or all n part) → None ≡ position_of part
    → positions all ≡ behind path (positions (drop n all)) → positions all ≡ None
no_position all path part n turn is so_far =
    so_far ∙ ap (λ (parts : List (List ℕ)). behind path (positions parts)) (rest_more all n part turn)
    ∙ ap (λ (o : Option ℕ). behind path (in_front o (positions (drop (n + 1) all)))) (sym is)

pub positions_end : (all : List (List ℕ)) (path : List ℕ) (n : ℕ) → n ≡ length all → positions all ≡ behind path (positions (drop n all))
    → positions all ≡ Some path
positions_end all path n e so_far =
    so_far ∙ ap (λ (parts : List (List ℕ)). behind path (positions parts)) (drop_all n all (omega arith)) ∙ ap Some (append-nil path)

-- ---- A word with a path is ASCII

slash_small : (c : ℕ) → is_slash c ≡ true → c < 128
slash_small c h = grind (arith, nat_tests)

digit_small : (c : ℕ) → is_digit c ≡ true → c < 128
digit_small c h = grind (arith, nat_tests)

position_digits : (part : List ℕ) (position : ℕ) → position_of part ≡ Some position → list_all is_digit part ≡ true
position_digits [] position e = absurd (cc)
position_digits (c ∷ cs) position e = go (is_between 0x31 0x39 c) (list_all is_digit cs) (nat_le (length cs) 17) refl refl e
  where
    go : (x y z : Bool) → is_between 0x31 0x39 c ≡ x → list_all is_digit cs ≡ y → tested x y z c cs ≡ Some position
        → list_all is_digit (c ∷ cs) ≡ true
    go true true z p q t = and_from (is_digit c) (list_all is_digit cs) (first_is_digit c p) q
    go true false z p q t = absurd (cc)
    go false y z p q t = absurd (cc)

abbrev are_digits : List (List ℕ) → Bool
are_digits parts = list_all (list_all is_digit) parts

one_there : (part : List ℕ) (parts : List (List ℕ)) (o : Option ℕ) (rest : Option (List ℕ)) (path : List ℕ) → position_of part ≡ o
    → positions parts ≡ rest
    → ((more : List ℕ) → positions parts ≡ Some more → are_digits parts ≡ true) → in_front o rest ≡ Some path
    → are_digits (part ∷ parts) ≡ true
one_there part parts None rest path e f others t = absurd (cc)
one_there part parts (Some x) None path e f others t = absurd (cc)
one_there part parts (Some x) (Some more) path e f others t = and_from (list_all is_digit part) (are_digits parts) (position_digits part x e) (others more f)

all_digits : (parts : List (List ℕ)) (path : List ℕ) → positions parts ≡ Some path → are_digits parts ≡ true
all_digits [] path e = refl
all_digits (part ∷ parts) path e = one_there part parts (position_of part) (positions parts) path refl refl (all_digits parts) e

onto_digits : (c : ℕ) (parts : List (List ℕ)) → are_digits (onto_first c parts) ≡ true → (is_digit c ≡ true) × (are_digits parts ≡ true)
onto_digits c [] h =
    let one = and_parts (is_digit c && true) true h in
    let first = and_parts (is_digit c) true one.0 in
    (first.0, refl)
onto_digits c (part ∷ parts) h =
    let one = and_parts (is_digit c && list_all is_digit part) (are_digits parts) h in
    let first = and_parts (is_digit c) (list_all is_digit part) one.0 in
    (first.0, and_from (list_all is_digit part) (are_digits parts) first.1 one.1)

ascii_more : (c : ℕ) (cs : List ℕ) (b : Bool) → is_slash c ≡ b → (are_digits (parts_of cs) ≡ true → IsAscii cs)
    → are_digits (if b then [] ∷ parts_of cs else onto_first c (parts_of cs)) ≡ true → IsAscii (c ∷ cs)
ascii_more c cs true e rest h = IsAscii-cons c cs (slash_small c e) (rest h)
ascii_more c cs false e rest h = let parts = onto_digits c (parts_of cs) h in IsAscii-cons c cs (digit_small c parts.0) (rest parts.1)

digits_ascii : (cs : List ℕ) → are_digits (parts_of cs) ≡ true → IsAscii cs
digits_ascii [] h = IsAscii-nil
digits_ascii (c ∷ cs) h = ascii_more c cs (is_slash c) refl (digits_ascii cs) h

positions_ascii : (cs path : List ℕ) → positions_of cs ≡ Some path → IsAscii cs
positions_ascii [] path e = IsAscii-nil
positions_ascii (c ∷ cs) path e = digits_ascii (c ∷ cs) (all_digits (parts_of (c ∷ cs)) path e)

path_ascii : (word path : List ℕ) → path_of word ≡ Some path → IsAscii word
path_ascii [] path e = absurd (cc)
path_ascii (c ∷ cs) path e = go (is_slash c) refl e
  where
    go : (b : Bool) → is_slash c ≡ b → (if b then positions_of cs else None) ≡ Some path → IsAscii (c ∷ cs)
    go true s t = IsAscii-cons c cs (slash_small c s) (positions_ascii cs path t)
    go false s t = absurd (cc)

-- the bytes of a word have the path of its characters
pub path_of-chars : (bs : List ℕ) → IsUtf8 bs → path_of (chars bs) ≡ path_of bs
path_of-chars bs u = go (path_of (chars bs)) (path_of bs) refl refl
  where
    go : (a b : Option (List ℕ)) → path_of (chars bs) ≡ a → path_of bs ≡ b → path_of (chars bs) ≡ path_of bs
    go a (Some path) e f = ap path_of (chars-IsAscii bs (path_ascii bs path f))
    go (Some path) None e f = ap path_of (sym (encodes-IsAscii (chars bs) (path_ascii (chars bs) path e)) ∙ encodes-chars bs u)
    go None None e f = e ∙ sym f

-- ---- What stands behind the first slash

-- the word begins with a slash, or not
abbrev pub Behind : List ℕ → Option (Bor (List ℕ)) → Type 0
Behind word r = MatchOption r ((rest : List ℕ) → word ≢ 0x2F ∷ rest) (λ rest. word ≡ 0x2F ∷ rest.now)

slash_is : (c : ℕ) → is_slash c ≡ true → c ≡ 0x2F
slash_is c h = grind (arith, nat_tests)

pub no_slash : (word : List ℕ) → ((rest : List ℕ) → word ≢ 0x2F ∷ rest) → path_of word ≡ None
no_slash [] h = refl
no_slash (c ∷ cs) h = go (is_slash c) refl
  where
    go : (b : Bool) → is_slash c ≡ b → (if b then positions_of cs else None) ≡ None
    go true e = absurd (h cs (ap (λ d. d ∷ cs) (slash_is c e)))
    go false e = refl

-- nothing stands behind the slash, or positions
none_behind : (rest : List ℕ) → length rest ≡ 0 → positions_of rest ≡ Some []
none_behind [] e = refl
none_behind (c ∷ cs) e = absurd (omega arith)

some_behind : (rest : List ℕ) → length rest ≢ 0 → positions_of rest ≡ positions (parts_of rest)
some_behind [] e = absurd (e refl)
some_behind (c ∷ cs) e = refl

pub root_path : (bs rest : List ℕ) (b : Bool) → IsUtf8 bs → bs ≡ 0x2F ∷ rest → b ≡ (length rest == 0) → b ≡ true
    → path_of (chars bs) ≡ Some []
root_path bs rest b u e t h = let none : length rest ≡ 0 = grind (arith, nat_tests) in path_of-chars bs u ∙ ap path_of e ∙ none_behind rest none

pub longer_path : (bs rest : List ℕ) (b : Bool) → IsUtf8 bs → bs ≡ 0x2F ∷ rest → b ≡ (length rest == 0) → b ≡ false
    → path_of (chars bs) ≡ positions (parts_of rest)
longer_path bs rest b u e t h = let some : length rest ≢ 0 = grind (arith, nat_tests) in path_of-chars bs u ∙ ap path_of e ∙ some_behind rest some

pub stripped_none : (word : List ℕ) (r : Option (Bor (List ℕ))) → Behind word r → r ≡ None → (rest : List ℕ) → word ≢ 0x2F ∷ rest
stripped_none word None h e = h
stripped_none word (Some rest) h e = absurd (cc)

pub stripped_some : (word : List ℕ) (r : Option (Bor (List ℕ))) (rest : Bor (List ℕ)) → Behind word r → r ≡ Some rest
    → word ≡ 0x2F ∷ rest.now
stripped_some word None rest h e = absurd (cc)
stripped_some word (Some other) rest h e = let same : other ≡ rest = cc in h ∙ ap (λ (r : Bor (List ℕ)). 0x2F ∷ r.now) same
