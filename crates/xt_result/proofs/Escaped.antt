-- One character more of a comment or a processing instruction, and the end of it.
use Rattle.std.proofs.Common.{◌≡◌, ℕ, Bool, true, false, ◌==◌, List, [], ◌∷◌, ◌++◌, length, refl, sym, ap, ◌∙◌, arith, append_assoc, append-nil}
use Rattle.std.specs.Prelude.{if◌then◌else◌}
use Rattle.std.specs.Str.{chars, IsUtf8}
use Rattle.std.proofs.lemmas.Str.{chars-nil, chars_past_char}
use Rattle.spec_result.specs.Recovery.{comment_text, instruction_text, space_behind_hyphen, space_behind_mark}
use lib.Utf8.{encode}

no_chars : (bs : List ℕ) → length bs ≡ 0 → chars bs ≡ []
no_chars [] h = chars-nil
no_chars (b ∷ bs) h = absurd (omega arith)

-- what is still to come of a text: the space that what is before it asks for, and then its own
abbrev pub comment_rest : Bool → List ℕ → List ℕ
comment_rest b cs = (if b then space_behind_hyphen cs else []) ++ comment_text cs

abbrev pub instruction_rest : Bool → List ℕ → List ℕ
instruction_rest b cs = (if b then space_behind_mark cs else []) ++ instruction_text cs

one_more : (line space after rest : List ℕ) (c : ℕ) → (line ++ space ++ c ∷ []) ++ (after ++ rest) ≡ line ++ (space ++ (c ∷ (after ++ rest)))
one_more line space after rest c = append_assoc (line ++ space) (c ∷ []) (after ++ rest) ∙ append_assoc line space (c ∷ (after ++ rest))

pub comment_more : (line more all bs rest : List ℕ) (c : ℕ) (b : Bool) → IsUtf8 bs → bs ≡ encode c ++ rest
    → more ≡ line ++ (if b then (if c == 0x2D then 0x20 ∷ [] else []) else []) ++ c ∷ []
    → line ++ comment_rest b (chars bs) ≡ all → more ++ comment_rest (c == 0x2D) (chars rest) ≡ all
comment_more line more all bs rest c b u s p h =
    ap (λ x. x ++ comment_rest (c == 0x2D) (chars rest)) p
    ∙ one_more line (if b then space_behind_hyphen (c ∷ chars rest) else []) (if c == 0x2D then space_behind_hyphen (chars rest) else [])
    (comment_text (chars rest)) c
    ∙ ap (λ cs. line ++ comment_rest b cs) (sym (chars_past_char bs rest c u s)) ∙ h

pub comment_all : (line more all bs : List ℕ) (b : Bool) → length bs ≡ 0 → more ≡ line ++ (if b then 0x20 ∷ [] else [])
    → line ++ comment_rest b (chars bs) ≡ all → more ≡ all
comment_all line more all bs b e p h =
    p ∙ ap (λ x. line ++ x) (sym (append-nil (if b then 0x20 ∷ [] else []))) ∙ ap (λ cs. line ++ comment_rest b cs) (sym (no_chars bs e)) ∙ h

pub instruction_more : (line more all bs rest : List ℕ) (c : ℕ) (b : Bool) → IsUtf8 bs → bs ≡ encode c ++ rest
    → more ≡ line ++ (if b then (if c == 0x3E then 0x20 ∷ [] else []) else []) ++ c ∷ []
    → line ++ instruction_rest b (chars bs) ≡ all → more ++ instruction_rest (c == 0x3F) (chars rest) ≡ all
instruction_more line more all bs rest c b u s p h =
    ap (λ x. x ++ instruction_rest (c == 0x3F) (chars rest)) p
    ∙ one_more line (if b then space_behind_mark (c ∷ chars rest) else []) (if c == 0x3F then space_behind_mark (chars rest) else [])
    (instruction_text (chars rest)) c
    ∙ ap (λ cs. line ++ instruction_rest b cs) (sym (chars_past_char bs rest c u s)) ∙ h

ends : (b : Bool) → instruction_rest b [] ≡ []
ends true = refl
ends false = refl

pub instruction_all : (line all bs : List ℕ) (b : Bool) → length bs ≡ 0 → line ++ instruction_rest b (chars bs) ≡ all → line ≡ all
instruction_all line all bs b e h =
    sym (append-nil line) ∙ ap (λ x. line ++ x) (sym (ends b)) ∙ ap (λ cs. line ++ instruction_rest b cs) (sym (no_chars bs e)) ∙ h
