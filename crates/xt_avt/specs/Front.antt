-- What stands at the front of a text, in its bytes and in its characters.
use Rattle.std.specs.Prelude.{◌≡◌, ℕ, List, ◌∷◌, ◌++◌}
use Rattle.std.specs.Str.{chars, IsUtf8}

-- the text is a character and what stands behind it
pub record IsBehind (first : ℕ) (rest text : List ℕ) : Type 0 where
  pub characters : chars text ≡ first ∷ chars rest
  pub utf8 : IsUtf8 rest
  pub front : List ℕ
  pub whole : text ≡ front ++ rest
