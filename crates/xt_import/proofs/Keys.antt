-- Modules by their names: keys are texts, names are characters.
use Rattle.std.proofs.Common.{◌≡◌, ℕ, true, cond, List, [], ◌∷◌, Some, bytes_eq, string_bytes, refl, ap}
use Rattle.std.proofs.Common.{◌∙◌}
use Rattle.std.proofs.lemmas.Str.{IsUtf8-string_bytes}
use Rattle.std.proofs.lemmas.Slice.Eq.{bytes_eq-Decides}
use Rattle.std.specs.Map.{lookup}
use Rattle.std.specs.Str.{chars, IsUtf8}
use Rattle.std.specs.declared.alloc.Global.{Global}
use Rattle.std.specs.declared.string.String.{String}
use Rattle.xt_text.proofs.Chars.{same_chars}
use Rattle.xt_import.specs.View.{is_name}

-- an entry is found by the bytes of a text as by its characters
pub by_characters : {X : Type 0} (text : List ℕ) → IsUtf8 text → (es : List (String Global × X))
    → lookup (λ key. bytes_eq text (string_bytes key)) es ≡ lookup (is_name (chars text)) es
by_characters text u [] = refl
by_characters text u (e ∷ es) =
    ap (λ b. cond b (Some e.1) (lookup (λ key. bytes_eq text (string_bytes key)) es)) (same_chars text (string_bytes e.0) u (IsUtf8-string_bytes e.0))
    ∙ ap (λ rest. cond (is_name (chars text) e.0) (Some e.1) rest) (by_characters text u es)

pub equal : (a b : List ℕ) → bytes_eq a b ≡ true → a ≡ b
equal a b e = (bytes_eq-Decides a b).0 e

pub is_equal : (a b : List ℕ) → a ≡ b → bytes_eq a b ≡ true
is_equal a b e = (bytes_eq-Decides a b).1 e
