-- What is left of a text, or of a list, at a turn of a loop; and the functions of texts, a character at a time.
use Rattle.std.proofs.Common.{◌≡◌, ℕ, zero, suc, ◌+◌, ◌<◌, ◌≤◌, Bool, true, false, cond, not, ◌&&◌, List, [], ◌∷◌, ◌++◌}
use Rattle.std.proofs.Common.{length, get_or, take, drop, map, arith, refl, sym, ap, ◌∙◌, append_assoc, append-nil, ◌==◌, length-append}
use Rattle.std.proofs.Math.Seq.{drop-cons}
use Rattle.std.proofs.Math.Numerals.{add-one}
use Rattle.std.proofs.lemmas.Bool.{cond-true, cond-false, lt-ltb}
use Rattle.std.proofs.lemmas.Bool.Decides.{nat_tests}
use Rattle.std.proofs.lemmas.List.Splits.{slice_split-cons_yes, slice_split-cons_no}
use Rattle.std.proofs.lemmas.List.{take_more}
use Rattle.std.specs.List.{concat, filter, enumerate_from, slice_split, onto_first, join_with_byte}
use Rattle.spec_document.specs.Character.{is_space}
use Rattle.spec_expression.specs.Strings.{characters_at, is_word, words, normalized, translated, translation_of}

pub rest_more : (cs : List ℕ) (n c : ℕ) → (n < length cs) × (c ≡ get_or cs n c) → drop n cs ≡ c ∷ drop (n + 1) cs
rest_more cs n c h = drop-cons cs n c h.0 ∙ rw (← h.1, add-one) refl

pub rest_all : (cs : List ℕ) (n : ℕ) → length cs ≤ n → drop n cs ≡ []
rest_all [] zero h = refl
rest_all [] (suc n) h = refl
rest_all (c ∷ cs) zero h = absurd (omega arith)
rest_all (c ∷ cs) (suc n) h = rest_all cs n (omega arith)

-- ---- `concat`
concat_push : (xs : List (List ℕ)) (x : List ℕ) → concat (xs ++ x ∷ []) ≡ concat xs ++ x
concat_push [] x = append-nil x
concat_push (y ∷ ys) x = ap (λ t. y ++ t) (concat_push ys x) ∙ sym (append_assoc y (concat ys) x)

pub concat_more : (xs : List (List ℕ)) (i : ℕ) (x : List ℕ) → i < length xs → x ≡ get_or xs i x
    → concat (take (i + 1) xs) ≡ concat (take i xs) ++ x
concat_more xs i x h e = ap concat (take_more xs i x h) ∙ ap (λ t. concat (take i xs ++ t ∷ [])) (sym e) ∙ concat_push (take i xs) x

-- nothing is left at the end of a loop
pub finished : (f : List ℕ → List ℕ) → f [] ≡ [] → (out cs all : List ℕ) (n : ℕ) → n ≡ length cs → out ++ f (drop n cs) ≡ all
    → out ≡ all
finished f nil out cs all n e so_far =
    sym (append-nil out) ∙ ap (λ t. out ++ t) (sym (ap f (rest_all cs n (omega arith)) ∙ nil)) ∙ so_far

-- ---- the characters at the places that pass, counted from k on
abbrev pub selected : (ℕ → Bool) → ℕ → List ℕ → List ℕ
selected is_place k [] = []
selected is_place k (c ∷ cs) = cond (is_place k) (c ∷ selected is_place (k + 1) cs) (selected is_place (k + 1) cs)

selected_step :
    (is_place : ℕ → Bool) (k c : ℕ) (cs : List ℕ) (b : Bool)
    → map (λ c. c.1) (filter (λ c. is_place c.0) (enumerate_from (k + 1) cs)) ≡ selected is_place (k + 1) cs
    → map (λ c. c.1) (cond b ((k, c) ∷ filter (λ c. is_place c.0) (enumerate_from (k + 1) cs))
    (filter (λ c. is_place c.0) (enumerate_from (k + 1) cs)))
    ≡ cond b (c ∷ selected is_place (k + 1) cs) (selected is_place (k + 1) cs)
selected_step is_place k c cs true rest = ap (λ t. c ∷ t) rest
selected_step is_place k c cs false rest = rest

selected_is : (is_place : ℕ → Bool) (k : ℕ) (cs : List ℕ)
    → map (λ c. c.1) (filter (λ c. is_place c.0) (enumerate_from k cs)) ≡ selected is_place k cs
selected_is is_place k [] = refl
selected_is is_place k (c ∷ cs) = selected_step is_place k c cs (is_place k) (selected_is is_place (k + 1) cs)

pub characters_at_selected : (is_place : ℕ → Bool) (cs : List ℕ) → selected is_place 1 cs ≡ characters_at is_place cs
characters_at_selected is_place cs = sym (selected_is is_place 1 cs)

-- a character that is at such a place, and one that is not
pub select_taken :
    (is_place : ℕ → Bool) (cs out all : List ℕ) (n c : ℕ) → (n < length cs) × (c ≡ get_or cs n c) → is_place (n + 1) ≡ true
    → out ++ selected is_place (n + 1) (drop n cs) ≡ all → (out ++ c ∷ []) ++ selected is_place (n + 1 + 1) (drop (n + 1) cs) ≡ all
select_taken is_place cs out all n c turn taken so_far =
    append_assoc out (c ∷ []) _
    ∙ ap (λ t. out ++ t) (sym (ap (selected is_place (n + 1)) (rest_more cs n c turn) ∙ cond-true (is_place (n + 1)) _ _ taken))
    ∙ so_far

pub select_left :
    (is_place : ℕ → Bool) (cs out all : List ℕ) (n c : ℕ) → (n < length cs) × (c ≡ get_or cs n c) → is_place (n + 1) ≡ false
    → out ++ selected is_place (n + 1) (drop n cs) ≡ all → out ++ selected is_place (n + 1 + 1) (drop (n + 1) cs) ≡ all
select_left is_place cs out all n c turn left so_far =
    ap (λ t. out ++ t) (sym (ap (selected is_place (n + 1)) (rest_more cs n c turn) ∙ cond-false (is_place (n + 1)) _ _ left)) ∙ so_far

-- ---- `translate`
pub translate_more :
    (cs from to out piece all : List ℕ) (n c : ℕ) → (n < length cs) × (c ≡ get_or cs n c) → piece ≡ translation_of from to c
    → out ++ translated (drop n cs) from to ≡ all → (out ++ piece) ++ translated (drop (n + 1) cs) from to ≡ all
translate_more cs from to out piece all n c turn e so_far =
    append_assoc out piece _
    ∙ ap (λ t. out ++ t) (ap (λ t. t ++ translated (drop (n + 1) cs) from to) e ∙ sym (ap (λ t. translated t from to) (rest_more cs n c turn)))
    ∙ so_far

pub translate_dropped :
    (cs from to out all : List ℕ) (n c : ℕ) → (n < length cs) × (c ≡ get_or cs n c) → [] ≡ translation_of from to c
    → out ++ translated (drop n cs) from to ≡ all → out ++ translated (drop (n + 1) cs) from to ≡ all
translate_dropped cs from to out all n c turn e so_far =
    ap (λ t. t ++ translated (drop (n + 1) cs) from to) (sym (append-nil out)) ∙ translate_more cs from to out [] all n c turn e so_far

-- ---- what `normalize-space` adds from here on: whether a word stands before, and white space after it
abbrev pub normal_rest : Bool → Bool → List ℕ → List ℕ
normal_rest is_begun is_apart [] = []
normal_rest is_begun is_apart (c ∷ cs) =
    cond (is_space c) (normal_rest is_begun true cs)
    (cond (is_apart && is_begun) (0x20 ∷ c ∷ []) (c ∷ []) ++ normal_rest true false cs)

spaced : List (List ℕ) → List ℕ
spaced [] = []
spaced (w ∷ ws) = 0x20 ∷ (w ++ spaced ws)

join_spaced : (w : List ℕ) (ws : List (List ℕ)) → join_with_byte 0x20 (w ∷ ws) ≡ w ++ spaced ws
unfolding spaced
join_spaced w [] = sym (append-nil w)
join_spaced w (x ∷ ws) = ap (λ t. w ++ 0x20 ∷ t) (join_spaced x ws)

continued : List (List ℕ) → List ℕ
continued [] = []
continued (w ∷ ws) = w ++ spaced (filter is_word ws)

record Rest (cs : List ℕ) : Type 0 where
  apart : normal_rest true true cs ≡ spaced (words cs)
  inside : normal_rest true false cs ≡ continued (slice_split is_space cs)
  begin : (is_apart : Bool) → normal_rest false is_apart cs ≡ normalized cs

word_cons : (c : ℕ) (w : List ℕ) → is_word (c ∷ w) ≡ true
word_cons c w = lt-ltb 0 (length (c ∷ w)) (omega arith)

onto_spaced : (c : ℕ) (parts : List (List ℕ)) → spaced (filter is_word (onto_first c parts)) ≡ 0x20 ∷ c ∷ continued parts
unfolding spaced continued
onto_spaced c [] = refl
onto_spaced c (w ∷ ws) = ap spaced (cond-true (is_word (c ∷ w)) _ _ (word_cons c w))

onto_continued : (c : ℕ) (parts : List (List ℕ)) → continued (onto_first c parts) ≡ c ∷ continued parts
unfolding spaced continued
onto_continued c [] = refl
onto_continued c (w ∷ ws) = refl

onto_joined : (c : ℕ) (parts : List (List ℕ)) → join_with_byte 0x20 (filter is_word (onto_first c parts)) ≡ c ∷ continued parts
unfolding spaced continued
onto_joined c [] = refl
onto_joined c (w ∷ ws) = ap (join_with_byte 0x20) (cond-true (is_word (c ∷ w)) _ _ (word_cons c w)) ∙ join_spaced (c ∷ w) (filter is_word ws)

first : (is_apart : Bool) (c : ℕ) (rest : List ℕ) → cond (is_apart && false) (0x20 ∷ c ∷ []) (c ∷ []) ++ rest ≡ c ∷ rest
first true c rest = refl
first false c rest = refl

rest_step : (c : ℕ) (cs : List ℕ) (b : Bool) → is_space c ≡ b → Rest cs → Rest (c ∷ cs)
unfolding spaced continued
rest_step c cs true e r =
    let parts = slice_split-cons_yes is_space c cs e in
    record {
      apart = cond-true (is_space c) _ _ e ∙ r.apart ∙ sym (ap (λ t. spaced (filter is_word t)) parts);
      inside = cond-true (is_space c) _ _ e ∙ r.apart ∙ sym (ap continued parts);
      begin = λ is_apart. cond-true (is_space c) _ _ e ∙ r.begin true ∙ sym (ap (λ t. join_with_byte 0x20 (filter is_word t)) parts);
    }
rest_step c cs false e r =
    let parts = slice_split-cons_no is_space c cs e in
    let more = slice_split is_space cs in
    let word = ap (λ t. c ∷ t) r.inside in
    record {
      apart = cond-false (is_space c) _ _ e ∙ ap (λ t. 0x20 ∷ t) word ∙ sym (onto_spaced c more) ∙ sym (ap (λ t. spaced (filter is_word t)) parts);
      inside = cond-false (is_space c) _ _ e ∙ word ∙ sym (onto_continued c more) ∙ sym (ap continued parts);
      begin = λ is_apart. cond-false (is_space c) _ _ e ∙ first is_apart c _ ∙ word ∙ sym (onto_joined c more)
          ∙ sym (ap (λ t. join_with_byte 0x20 (filter is_word t)) parts);
    }

rest_is : (cs : List ℕ) → Rest cs
unfolding spaced continued
rest_is [] = record { apart = refl; inside = refl; begin = λ is_apart. refl }
rest_is (c ∷ cs) = rest_step c cs (is_space c) refl (rest_is cs)

pub normal_rest_is : (cs : List ℕ) → normal_rest false false cs ≡ normalized cs
normal_rest_is cs = (rest_is cs).begin false

pub normal_space :
    (cs out all : List ℕ) (is_begun is_apart : Bool) (n c : ℕ) → (n < length cs) × (c ≡ get_or cs n c) → is_space c ≡ true
    → out ++ normal_rest is_begun is_apart (drop n cs) ≡ all → out ++ normal_rest is_begun true (drop (n + 1) cs) ≡ all
normal_space cs out all is_begun is_apart n c turn space so_far =
    ap (λ t. out ++ t) (sym (ap (normal_rest is_begun is_apart) (rest_more cs n c turn) ∙ cond-true (is_space c) _ _ space)) ∙ so_far

begun : (b : Bool) (out : List ℕ) (c : ℕ) → not (length (out ++ cond b (0x20 ∷ c ∷ []) (c ∷ [])) == 0) ≡ true
begun true out c = grind (arith, nat_tests, length-append {A = ℕ})
begun false out c = grind (arith, nat_tests, length-append {A = ℕ})

pub normal_word :
    (cs out new all : List ℕ) (is_apart : Bool) (n c : ℕ) → (n < length cs) × (c ≡ get_or cs n c) → is_space c ≡ false
    → new ≡ out ++ cond (is_apart && not (length out == 0)) (0x20 ∷ c ∷ []) (c ∷ [])
    → out ++ normal_rest (not (length out == 0)) is_apart (drop n cs) ≡ all
    → new ++ normal_rest (not (length new == 0)) false (drop (n + 1) cs) ≡ all
normal_word cs out new all is_apart n c turn word e so_far =
    let b = is_apart && not (length out == 0) in
    let piece : List ℕ = cond b (0x20 ∷ c ∷ []) (c ∷ []) in
    let rest = drop (n + 1) cs in
    ap (λ t. t ++ normal_rest (not (length t == 0)) false rest) e ∙ ap (λ t. (out ++ piece) ++ normal_rest t false rest) (begun b out c)
    ∙ append_assoc out piece _
    ∙ ap (λ t. out ++ t) (sym (ap (normal_rest (not (length out == 0)) is_apart) (rest_more cs n c turn) ∙ cond-false (is_space c) _ _ word)) ∙ so_far
