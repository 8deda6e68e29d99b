-- What is written piece by piece.
use Rattle.std.proofs.Common.{◌≡◌, ℕ, ◌≤◌, true, List, [], ◌∷◌, ◌++◌, length, drop, Result, refl, sym, ap, ◌∙◌, append-nil, append_assoc}
use Rattle.std.specs.Prelude.{codes, decimal, IfOk}
use Rattle.std.specs.List.{list_all, flat_map}
use Rattle.std.specs.Char.{is_ascii}
use Rattle.std.specs.Str.{chars, encode_utf8_all}
use Rattle.std.proofs.lemmas.List.{drop_all}
use Rattle.std.proofs.lemmas.List.Concat.{flat_map-append}
use Rattle.std.proofs.lemmas.Result.{IfOk-weaker}
use Rattle.spec_run.specs.Outcome.{Refusal}
use Rattle.spec_session.specs.Reply.{refusal_text, with_newline}
use Rattle.xt_text.specs.declared.text.Text.{Text}
use Rattle.xt_text.specs.declared.memory.Memory.{Memory}
use Rattle.xt_wire.proofs.Texts.{ascii_chars}

-- a text that begins with an ASCII word
pub begun : (text word : List ℕ) → list_all is_ascii word ≡ true → text ≡ chars word → text ≡ word
begun text word small e = e ∙ ascii_chars word small

-- the text that a call gives, said otherwise
pub written : (r : Result Text Memory) (one other : List ℕ) → one ≡ other → IfOk r (λ text. text ≡ one) → IfOk r (λ text. text ≡ other)
written r one other e h = IfOk-weaker r (λ text. text ≡ one) (λ text. text ≡ other) (λ text t. t ∙ e) h

pub written_refusal : (words : List ℕ) (why : Refusal) → list_all is_ascii words ≡ true
    → with_newline (chars words ++ refusal_text why) ≡ flat_map with_newline ((words ++ refusal_text why) ∷ [])
written_refusal words why small =
    ap (λ (w : List ℕ). with_newline (w ++ refusal_text why)) (ascii_chars words small) ∙ sym (append-nil (with_newline (words ++ refusal_text why)))

-- the number of a text's bytes, and the text
pub text_written : (begun numbered ended whole more text : List ℕ) (count : ℕ) → begun ≡ codes "text " → count ≡ length (encode_utf8_all text)
    → numbered ≡ begun ++ decimal count → ended ≡ numbered ++ 10 ∷ [] → more ≡ ended ++ text → whole ≡ more ++ 10 ∷ []
    → whole ≡ flat_map with_newline ((codes "text " ++ decimal (length (encode_utf8_all text))) ∷ text ∷ [])
text_written begun numbered ended whole more text count b n m e t w =
    w ∙ ap (λ (ts : List ℕ). ts ++ 10 ∷ []) (t ∙ ap (λ (ts : List ℕ). ts ++ text) (e ∙ ap (λ (ts : List ℕ). ts ++ 10 ∷ []) (m ∙ (λ i. b i ++ decimal (n i)))))
    ∙ append_assoc ((codes "text " ++ decimal (length (encode_utf8_all text))) ++ 10 ∷ []) text (10 ∷ [])
    ∙ ap (λ (ts : List ℕ). ((codes "text " ++ decimal (length (encode_utf8_all text))) ++ 10 ∷ []) ++ ts) (sym (append-nil (text ++ 10 ∷ [])))

-- three numbers behind a word each
pub counts_written : (begun ran_told parted asked_told second did_told whole : List ℕ) (ran asked did : ℕ) → begun ≡ codes "ran "
    → ran_told ≡ begun ++ decimal ran → parted ≡ ran_told ++ chars (codes " asked ") → asked_told ≡ parted ++ decimal asked
    → second ≡ asked_told ++ chars (codes " did ") → did_told ≡ second ++ decimal did → whole ≡ did_told ++ 10 ∷ []
    → whole ≡ with_newline (codes "ran " ++ decimal ran ++ codes " asked " ++ decimal asked ++ codes " did " ++ decimal did)
counts_written begun ran_told parted asked_told second did_told whole ran asked did b r p a s d w =
    let two = a ∙ ap (λ (t : List ℕ). t ++ decimal asked)
    (p ∙ λ i. (r ∙ ap (λ (t : List ℕ). t ++ decimal ran) b) i ++ ascii_chars (codes " asked ") refl i) in
    w ∙ ap (λ (t : List ℕ). t ++ 10 ∷ []) (d ∙ ap (λ (t : List ℕ). t ++ decimal did) (s ∙ λ i. two i ++ ascii_chars (codes " did ") refl i))

-- all lines are written, and then the line that ends them
pub all_shown : (lines : List (List ℕ)) (text new : List ℕ) (n : ℕ) → length lines ≤ n
    → text ++ flat_map with_newline (drop n lines) ≡ flat_map with_newline lines
    → new ≡ text ++ chars (codes ".\n") → new ≡ flat_map with_newline (lines ++ codes "." ∷ [])
all_shown lines text new n h so_far e =
    e ∙ ap (λ (end : List ℕ). text ++ end) (ascii_chars (codes ".\n") refl)
    ∙ ap (λ (t : List ℕ). t ++ codes ".\n")
    (sym (append-nil text) ∙ ap (λ (rest : List (List ℕ)). text ++ flat_map with_newline rest) (sym (drop_all n lines h)) ∙ so_far)
    ∙ sym (flat_map-append with_newline lines (codes "." ∷ []))
