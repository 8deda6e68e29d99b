-- The words of a text, a character at a time.
use Rattle.std.proofs.Common.{◌≡◌, ℕ, ◌+◌, ◌<◌, Bool, true, false, cond, List, [], ◌∷◌, ◌++◌, length, get_or, drop, refl, sym, ap, ◌∙◌, append_assoc, append-nil, arith}
use Rattle.std.proofs.Math.Seq.{drop-cons}
use Rattle.std.proofs.Math.Numerals.{add-one}
use Rattle.std.proofs.lemmas.List.{at_drop_all}
use Rattle.std.proofs.lemmas.List.Splits.{slice_split-cons_yes, slice_split-cons_no}
use Rattle.std.specs.List.{filter, slice_split, onto_first}
use Rattle.spec_document.specs.Character.{is_space}
use Rattle.spec_expression.specs.Strings.{is_word, words}

-- the parts, where this much of the first went before
abbrev pub onto : List ℕ → List (List ℕ) → List (List ℕ)
onto word [] = word ∷ []
onto word (part ∷ parts) = (word ++ part) ∷ parts

-- the words of a text, where this much of one went before it
abbrev pub words_after : List ℕ → List ℕ → List (List ℕ)
words_after word text = filter is_word (onto word (slice_split is_space text))

pub words_begin : (text : List ℕ) → words_after [] text ≡ words text
words_begin text = go (slice_split is_space text)
  where
    go : (parts : List (List ℕ)) → filter is_word (onto [] parts) ≡ filter is_word parts
    go [] = refl
    go (part ∷ parts) = refl

one : {A : Type 0} (b : Bool) (x : A) (xs : List A) → cond b (x ∷ xs) xs ≡ cond b (x ∷ []) [] ++ xs
one true x xs = refl
one false x xs = refl

split_word : (word : List ℕ) (parts : List (List ℕ)) → filter is_word (word ∷ parts) ≡ filter is_word (word ∷ []) ++ filter is_word parts
split_word [] parts = refl
split_word (c ∷ word) parts = one (is_word (c ∷ word)) (c ∷ word) (filter is_word parts)

rest_more : (cs : List ℕ) (n c : ℕ) → (n < length cs) × (c ≡ get_or cs n c) → drop n cs ≡ c ∷ drop (n + 1) cs
rest_more cs n c h = drop-cons cs n c h.0 ∙ rw (← h.1, add-one) refl

pub words_space : (cs : List ℕ) (list all : List (List ℕ)) (word : List ℕ) (n c : ℕ) → (n < length cs) × (c ≡ get_or cs n c) → is_space c ≡ true
    → list ++ words_after word (drop n cs) ≡ all → (list ++ filter is_word (word ∷ [])) ++ words_after [] (drop (n + 1) cs) ≡ all
words_space cs list all word n c turn space so_far =
    let rest = drop (n + 1) cs in
    append_assoc list (filter is_word (word ∷ [])) (words_after [] rest)
    ∙ ap (λ t. list ++ t)
    (ap (λ t. filter is_word (word ∷ []) ++ t) (words_begin rest) ∙ sym (split_word word (slice_split is_space rest))
    ∙ ap (λ t. filter is_word (t ∷ slice_split is_space rest)) (sym (append-nil word))
    ∙ ap (λ t. filter is_word (onto word t)) (sym (slice_split-cons_yes is_space c rest space))
    ∙ ap (words_after word) (sym (rest_more cs n c turn)))
    ∙ so_far

longer : (word : List ℕ) (c : ℕ) (parts : List (List ℕ)) → onto (word ++ c ∷ []) parts ≡ onto word (onto_first c parts)
longer word c [] = refl
longer word c (part ∷ parts) = ap (λ t. t ∷ parts) (append_assoc word (c ∷ []) part)

pub words_more : (cs : List ℕ) (list all : List (List ℕ)) (word : List ℕ) (n c : ℕ) → (n < length cs) × (c ≡ get_or cs n c) → is_space c ≡ false
    → list ++ words_after word (drop n cs) ≡ all → list ++ words_after (word ++ c ∷ []) (drop (n + 1) cs) ≡ all
words_more cs list all word n c turn other so_far =
    let rest = drop (n + 1) cs in
    ap (λ t. list ++ t)
    (ap (filter is_word) (longer word c (slice_split is_space rest))
    ∙ ap (λ t. filter is_word (onto word t)) (sym (slice_split-cons_no is_space c rest other))
    ∙ ap (words_after word) (sym (rest_more cs n c turn)))
    ∙ so_far

pub words_end : (cs : List ℕ) (list all : List (List ℕ)) (word : List ℕ) (n : ℕ) → n ≡ length cs
    → list ++ words_after word (drop n cs) ≡ all → list ++ filter is_word (word ∷ []) ≡ all
words_end cs list all word n e so_far =
    ap (λ t. list ++ filter is_word (t ∷ [])) (sym (append-nil word))
    ∙ ap (λ t. list ++ t) (sym (at_drop_all (words_after word) cs n (omega arith))) ∙ so_far
