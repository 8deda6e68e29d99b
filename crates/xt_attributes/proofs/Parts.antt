-- Parts that are read one after another.
use Rattle.std.proofs.Common.{◌≡◌, ℕ, ◌+◌, ◌<◌, ◌≤◌, List, [], ◌∷◌, ◌++◌, length, drop, get_or, Option, None, Some, Result, Ok, Err, refl, sym, ap, ◌∙◌}
use Rattle.std.proofs.lemmas.List.{at_drop_all, at_drop_more}
use Rattle.spec_expression.specs.declared.code.StaticCode.{StaticCode}
use Rattle.spec_compile.specs.Reading.{joined, lesser}
use Rattle.spec_compile.specs.Value.{each}
use Rattle.xt_attributes.specs.Gathering.{gathered_by, appended, appended-none, appended-part, none-appended}

pub refused : {T : Type 0} (parts : List T) (least : Option StaticCode) (part : Result T StaticCode) (code found : StaticCode) → part ≡ Err code
    → found ≡ (elim least [ None ↦ code | Some other ↦ lesser other code ]) → Err found ≡ joined (λ xs x. xs ++ x ∷ []) (gathered_by parts least) part
refused {T = T} parts None part code found e f = rw (e, f) refl
refused {T = T} parts (Some other) part code found e f = rw (e, f) refl

-- before the first of the words
pub first_part : {T : Type 0} (read : List ℕ → Result T StaticCode) (words : List (List ℕ)) (so_far : Result (List T) StaticCode) → so_far ≡ Ok []
    → appended so_far (each read words) ≡ each read words
first_part read words so_far e = ap (λ s. appended s (each read words)) e ∙ none-appended (each read words)

-- after the last
pub all_parts : {T : Type 0} (read : List ℕ → Result T StaticCode) (words : List (List ℕ)) (i : ℕ) (so_far : Result (List T) StaticCode) {all : Result (List T) StaticCode}
    → length words ≤ i → appended so_far (each read (drop i words)) ≡ all → so_far ≡ all
all_parts read words i so_far l inv = sym (appended-none so_far) ∙ ap (λ others. appended so_far others) (sym (at_drop_all (each read) words i l)) ∙ inv

-- the next of the words, and what is left after it
pub next_part : {T : Type 0} (read : List ℕ → Result T StaticCode) (words : List (List ℕ)) (i : ℕ) (word : List ℕ) (so_far : Result (List T) StaticCode)
    (part : Result T StaticCode) {all : Result (List T) StaticCode} → i < length words → part ≡ read (get_or words i word)
    → appended so_far (each read (drop i words)) ≡ all → appended (joined (λ xs x. xs ++ x ∷ []) so_far part) (each read (drop (i + 1) words)) ≡ all
next_part read words i word so_far part {all = all} h e inv =
    ap (λ p. appended (joined (λ xs x. xs ++ x ∷ []) so_far p) (each read (drop (i + 1) words))) e
    ∙ sym (appended-part so_far (read (get_or words i word)) (each read (drop (i + 1) words)))
    ∙ ap (λ (ws : List (List ℕ)). appended so_far (each read ws)) (sym (at_drop_more (λ ws. ws) words i word h))
    ∙ inv
