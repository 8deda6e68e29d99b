-- Texts and their characters.
use Rattle.std.proofs.Common.{◌≡◌, ℕ, List, [], ◌∷◌, length, ◌==◌, bytes_eq, refl, sym, ap, ◌∙◌, arith, append-nil, true}
use Rattle.std.specs.Str.{chars, IsUtf8}
use Rattle.std.proofs.lemmas.Str.{chars-nil, encodes-chars, chars-encodes}
use Rattle.std.proofs.lemmas.Bool.Decides.{same_from_decides, nat_tests}
use Rattle.std.proofs.lemmas.Slice.Eq.{bytes_eq-Decides}
use lib.Utf8.{encodes, encode, scalar}

chars_apart : (a b : List ℕ) → IsUtf8 a → IsUtf8 b → chars a ≡ chars b → a ≡ b
chars_apart a b u v e = sym (encodes-chars a u) ∙ ap encodes e ∙ encodes-chars b v

pub same_chars : (a b : List ℕ) → IsUtf8 a → IsUtf8 b → bytes_eq a b ≡ bytes_eq (chars a) (chars b)
same_chars a b u v =
    let d = bytes_eq-Decides (chars a) (chars b) in
    same_from_decides (bytes_eq a b) (bytes_eq (chars a) (chars b)) (bytes_eq-Decides a b) (λ h. chars_apart a b u v (d.0 h), λ e. d.1 (ap chars e))

pub no_chars : (bs : List ℕ) → IsUtf8 bs → (length bs == 0) ≡ (length (chars bs) == 0)
no_chars [] u = rw chars-nil refl
no_chars (b ∷ bs) u = go (chars (b ∷ bs)) (encodes-chars (b ∷ bs) u)
  where
    go : (cs : List ℕ) → encodes cs ≡ b ∷ bs → (length (b ∷ bs) == 0) ≡ (length cs == 0)
    go [] e = absurd (cc)
    go (c ∷ cs) e = grind (arith, nat_tests)

-- the characters of one character's bytes
pub chars-one : (c : ℕ) → scalar c ≡ true → chars (encode c) ≡ c ∷ []
chars-one c s = ap chars (sym (append-nil (encode c))) ∙ chars-encodes (c ∷ []) (rw s refl)
