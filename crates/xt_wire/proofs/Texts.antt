-- Bytes that are UTF-8, and words that are compared.
use Rattle.std.proofs.Common.{◌≡◌, ℕ, ◌<◌, suc, Bool, true, false, List, [], ◌∷◌, Result, Ok, Err, refl, sym, ◌∙◌, arith, bytes_eq}
use Rattle.std.proofs.Common.{ap, zero}
use Rattle.std.specs.Prelude.{is_ok}
use Rattle.std.specs.Char.{is_ascii}
use Rattle.std.specs.List.{list_all}
use Rattle.std.specs.Result.{MatchResult}
use Rattle.std.specs.Str.{IsUtf8, IsAscii, is_utf8, chars}
use Rattle.std.proofs.lemmas.Bool.{and_parts}
use Rattle.std.proofs.lemmas.Bool.Decides.{nat_tests}
use Rattle.std.proofs.lemmas.Slice.Eq.{bytes_eq-Decides}
use Rattle.std.proofs.lemmas.Str.{IsUtf8-from_is_utf8, is_utf8-from_IsUtf8, chars-IsAscii, IsUtf8-from_ascii}
use Rattle.xt_text.proofs.Chars.{same_chars}
use denote.Ref.{Bor}

not_true : (b : Bool) → (b ≡ true → ⊥) → b ≡ false
not_true true h = absurd (h refl)
not_true false h = refl

pub not_utf8 : (bytes : List ℕ) → (IsUtf8 bytes → ⊥) → is_utf8 bytes ≡ false
not_utf8 bytes h = not_true (is_utf8 bytes) (λ e. h (IsUtf8-from_is_utf8 bytes e))

-- what `from_utf8` tells
pub tested : {E : Type 0} (bytes : List ℕ) (r : Result (Bor (List ℕ)) E) (Q : E → Type 0)
    → MatchResult r (λ text. (text.now ≡ bytes) × IsUtf8 bytes) (λ e. (IsUtf8 bytes → ⊥) × Q e) → is_ok r ≡ is_utf8 bytes
tested bytes (Ok text) Q h = sym (is_utf8-from_IsUtf8 bytes h.1)
tested bytes (Err e) Q h = sym (not_utf8 bytes h.0)

pub IsAscii-nil : IsAscii []
IsAscii-nil i = omega arith

pub IsAscii-cons : (c : ℕ) (cs : List ℕ) → c < 128 → IsAscii cs → IsAscii (c ∷ cs)
IsAscii-cons c cs small rest zero = small
IsAscii-cons c cs small rest (suc i) = rest i

ascii_small : (c : ℕ) → is_ascii c ≡ true → c < 128
ascii_small c h = grind (arith, nat_tests)

all_ascii : (cs : List ℕ) → list_all is_ascii cs ≡ true → IsAscii cs
all_ascii [] h = IsAscii-nil
all_ascii (c ∷ cs) h =
    let parts = and_parts (is_ascii c) (list_all is_ascii cs) h in
    IsAscii-cons c cs (ascii_small c parts.0) (all_ascii cs parts.1)

-- the characters of an ASCII text are its bytes
pub ascii_chars : (word : List ℕ) → list_all is_ascii word ≡ true → chars word ≡ word
ascii_chars word small = chars-IsAscii word (all_ascii word small)

-- a text is compared with an ASCII word, whose characters are its bytes
pub compared : (word other : List ℕ) (r b : Bool) → list_all is_ascii other ≡ true → r ≡ bytes_eq (chars word) (chars other) → r ≡ b
    → bytes_eq (chars word) other ≡ b
compared word other r b small e t = ap (bytes_eq (chars word)) (sym (ascii_chars other small)) ∙ sym e ∙ t

pub is_it : (word other : List ℕ) → bytes_eq word other ≡ true → word ≡ other
is_it word other h = let d = bytes_eq-Decides word other in d.0 h

-- a text that is not an ASCII word does not have its characters
pub is_other : (word other : List ℕ) → IsUtf8 word → list_all is_ascii other ≡ true → (word ≡ other → ⊥) → bytes_eq (chars word) other ≡ false
is_other word other u small n =
    compared word other (bytes_eq word other) false small (same_chars word other u (IsUtf8-from_ascii other (all_ascii other small)))
    (not_true (bytes_eq word other) (λ e. n (is_it word other e)))
