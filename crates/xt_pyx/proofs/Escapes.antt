-- One character more, written or read, and the end of a text.
use Rattle.std.proofs.Common.{◌≡◌, ℕ, Bool, true, false, cond, ◌==◌, List, [], ◌∷◌, ◌++◌, length, sym, ap, ◌∙◌, arith}
use Rattle.std.proofs.Common.{append_assoc, append-nil, Result, Ok, Err}
use Rattle.std.specs.Result.{OnErr}
use Rattle.std.specs.Str.{chars, IsUtf8}
use Rattle.std.proofs.lemmas.Bool.{eq-eqb, ne_eqb}
use Rattle.std.proofs.lemmas.Str.{chars-nil, chars_past_char}
use Rattle.std.proofs.lemmas.List.{append_cancel_left}
use Rattle.xt_pyx.specs.Front.{HasFront}
use Rattle.spec_document.specs.Pyx.{escape, escaped, unescape, unescaped, behind_backslash}
use lib.Utf8.{encode}

no_chars : (bs : List ℕ) → length bs ≡ 0 → chars bs ≡ []
no_chars [] h = chars-nil
no_chars (b ∷ bs) h = absurd (omega arith)

pub written_more : (line more all bs rest : List ℕ) (c : ℕ) → IsUtf8 bs → bs ≡ encode c ++ rest → more ≡ line ++ escape c
    → line ++ escaped (chars bs) ≡ all → more ++ escaped (chars rest) ≡ all
written_more line more all bs rest c u s p h =
    ap (λ x. x ++ escaped (chars rest)) p ∙ append_assoc line (escape c) (escaped (chars rest))
    ∙ ap (λ cs. line ++ escaped cs) (sym (chars_past_char bs rest c u s)) ∙ h

pub written_all : (line all bs : List ℕ) → length bs ≡ 0 → line ++ escaped (chars bs) ≡ all → line ≡ all
written_all line all bs e h = sym (append-nil line) ∙ ap (λ cs. line ++ escaped cs) (sym (no_chars bs e)) ∙ h

pub begun_more : (old line more : List ℕ) (c : ℕ) → ((added : List ℕ) × (line ≡ old ++ added)) → more ≡ line ++ escape c
    → (added : List ℕ) × (more ≡ old ++ added)
begun_more old line more c b e = (b.0 ++ escape c, e ∙ ap (λ x. x ++ escape c) b.1 ∙ append_assoc old b.0 (escape c))

-- where one character was cut short, the text was
pub cut_short : (old line now text bs rest : List ℕ) (c : ℕ) → IsUtf8 bs → bs ≡ encode c ++ rest
    → ((added : List ℕ) × (line ≡ old ++ added))
    → HasFront line (escape c) now → line ++ escaped (chars bs) ≡ old ++ escaped text → HasFront old (escaped text) now
cut_short old line now text bs rest c u s b h e =
    let parted : escaped (chars bs) ≡ (h.added ++ h.left) ++ escaped (chars rest) =
    ap escaped (chars_past_char bs rest c u s) ∙ ap (λ x. x ++ escaped (chars rest)) h.more_is in
    let whole : old ++ (b.0 ++ ((h.added ++ h.left) ++ escaped (chars rest))) ≡ old ++ escaped text =
    sym (append_assoc old b.0 _) ∙ ap (λ x. x ++ ((h.added ++ h.left) ++ escaped (chars rest))) (sym b.1) ∙ ap (λ x. line ++ x) (sym parted) ∙ e in
    record {
      added = b.0 ++ h.added;
      left = h.left ++ escaped (chars rest);
      now_is = h.now_is ∙ ap (λ x. x ++ h.added) b.1 ∙ append_assoc old b.0 h.added;
      more_is = sym (append_cancel_left old _ _ whole) ∙ ap (λ x. b.0 ++ x) (append_assoc h.added h.left (escaped (chars rest)))
          ∙ sym (append_assoc b.0 h.added _);
    }

-- what is read of the rest
abbrev pub rest_read : Bool → List ℕ → List ℕ
rest_read b cs = cond b (behind_backslash cs) (unescaped cs)

pub read_behind_more : (text more all bs rest : List ℕ) (c : ℕ) (b : Bool) → IsUtf8 bs → bs ≡ encode c ++ rest → b ≡ true
    → more ≡ text ++ unescape c
    → text ++ rest_read b (chars bs) ≡ all → more ++ unescaped (chars rest) ≡ all
read_behind_more text more all bs rest c b u s t p h =
    ap (λ x. x ++ unescaped (chars rest)) p ∙ append_assoc text (unescape c) (unescaped (chars rest))
    ∙ ap (λ cs. text ++ behind_backslash cs) (sym (chars_past_char bs rest c u s)) ∙ ap (λ x. text ++ rest_read x (chars bs)) (sym t) ∙ h

-- a character that is not behind a backslash
unescaped-next : (c : ℕ) (cs : List ℕ) (b : Bool) → (c == 0x5C) ≡ b → unescaped (c ∷ cs) ≡ cond b (behind_backslash cs) (c ∷ unescaped cs)
unescaped-next c cs b e = ap (λ x. cond x (behind_backslash cs) (c ∷ unescaped cs)) e

pub read_backslash : (text all bs rest : List ℕ) (c : ℕ) (b : Bool) → IsUtf8 bs → bs ≡ encode c ++ rest → b ≡ false → c ≡ 0x5C
    → text ++ rest_read b (chars bs) ≡ all → text ++ behind_backslash (chars rest) ≡ all
read_backslash text all bs rest c b u s f e h =
    ap (λ x. text ++ x) (sym (ap unescaped (chars_past_char bs rest c u s) ∙ unescaped-next c (chars rest) true (eq-eqb c 0x5C e)))
    ∙ ap (λ x. text ++ rest_read x (chars bs)) (sym f) ∙ h

pub read_plain : (text more all bs rest : List ℕ) (c : ℕ) (b : Bool) → IsUtf8 bs → bs ≡ encode c ++ rest → b ≡ false → (c ≡ 0x5C → ⊥)
    → more ≡ text ++ c ∷ []
    → text ++ rest_read b (chars bs) ≡ all → more ++ rest_read b (chars rest) ≡ all
read_plain text more all bs rest c b u s f e p h =
    ap (λ x. more ++ rest_read x (chars rest)) f
    ∙ ap (λ x. x ++ unescaped (chars rest)) p ∙ append_assoc text (c ∷ []) (unescaped (chars rest))
    ∙ ap (λ x. text ++ x) (sym (ap unescaped (chars_past_char bs rest c u s) ∙ unescaped-next c (chars rest) false (ne_eqb c 0x5C e)))
    ∙ ap (λ x. text ++ rest_read x (chars bs)) (sym f) ∙ h

pub read_all : (text all bs : List ℕ) (b : Bool) → length bs ≡ 0 → text ++ rest_read b (chars bs) ≡ all → text ++ rest_read b [] ≡ all
read_all text all bs b e h = ap (λ cs. text ++ rest_read b cs) (sym (no_chars bs e)) ∙ h

-- what holds at any error
pub on_err : {T E P : Type 0} (r : Result T E) → P → OnErr r P
on_err (Ok x) p = tt
on_err (Err e) p = p
