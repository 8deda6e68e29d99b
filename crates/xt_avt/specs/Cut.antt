-- Pieces that a text is cut into.
use Rattle.std.specs.Prelude.{◌≡◌, ℕ, zero, ◌+◌, ◌<◌, ◌==◌, ◌||◌, Bool, false, if◌then◌else◌, List, ◌∷◌, ◌++◌, length, take, drop, Option, None, Some}
use Rattle.std.specs.Str.{chars, IsUtf8}
use Rattle.spec_static.specs.TemplateGrammar as plain
use Rattle.spec_static.specs.TemplateGrammar.{before_close, pieces}
use Rattle.xt_avt.specs.declared.braces.Piece.{Piece}
use Rattle.xt_avt.specs.declared.braces.Piece.TheVariants as code
use Rattle.xt_avt.specs.declared.braces.Cut.{Cut}

abbrev pub piece_of : Piece → plain.Piece
piece_of (code.Character c) = plain.Character c
piece_of (code.Enclosed text) = plain.Enclosed (chars text.now)
piece_of code.Stray = plain.Stray

-- the piece stands at the front of these characters, and the rest behind it
pub record IsCut (cut : Cut) (text : List ℕ) : Type 0 where
  pub pieces : pieces zero text ≡ piece_of cut.piece ∷ pieces zero (chars cut.rest.now)
  pub shorter : length (chars cut.rest.now) < length text

-- a `}` closes an expression outside of literals
abbrev pub closes : Option ℕ → ℕ → Bool
closes None c = c == 0x7D
closes (Some quote) c = false

-- the quote of the literal behind a character, by the one before it
abbrev pub quote_behind : Option ℕ → ℕ → Option ℕ
quote_behind None c = if (c == 0x22) || (c == 0x27) then Some c else None
quote_behind (Some quote) c = if c == quote then None else Some quote

-- the text ends with the first `}` outside of literals and what follows, and behind that `}` stands the rest
pub record IsClose (close rest text : List ℕ) : Type 0 where
  pub count : ℕ
  pub before : before_close None (chars text) ≡ Some count
  pub closing : chars close ≡ drop count (chars text)
  pub brace : chars close ≡ 0x7D ∷ chars rest
  pub utf8 : IsUtf8 close
  pub front : List ℕ
  pub whole : text ≡ front ++ close

-- what stands in front of the first `}` outside of literals, and behind it
pub record IsEnclosed (inside rest text : List ℕ) : Type 0 where
  pub count : ℕ
  pub before : before_close None text ≡ Some count
  pub enclosed : chars inside ≡ take count text
  pub behind : chars rest ≡ drop (count + 1) text
