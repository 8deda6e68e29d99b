-- What stands at the front of a text, in its bytes and in its characters.
use Rattle.std.specs.Prelude.{◌≡◌, ℕ, ◌<◌, ◌+◌, Bool, ◌==◌, ◌||◌, if◌then◌else◌, List, ◌∷◌, ◌++◌, length, drop, Option, None, Some}
use Rattle.std.specs.List.{prefix_len}
use Rattle.std.specs.Str.{chars, IsUtf8}
use Rattle.spec_expression.specs.Token as plain
use Rattle.spec_expression.specs.Token.{name_at, local_at}
use Rattle.xp_parse.specs.declared.cut.Piece.{Piece}
use Rattle.xp_parse.specs.View.{token_of}

-- the text is a character and what stands behind it
pub record IsBehind (first : ℕ) (rest text : List ℕ) : Type 0 where
  pub characters : chars text ≡ first ∷ chars rest
  pub utf8 : IsUtf8 rest
  pub front : List ℕ
  pub whole : text ≡ front ++ rest

-- the rest stands behind the characters at the front that pass the test
pub record IsFront (is_part : ℕ → Bool) (text rest : List ℕ) : Type 0 where
  pub characters : chars rest ≡ drop (prefix_len is_part (chars text)) (chars text)
  pub front : List ℕ
  pub whole : text ≡ front ++ rest

-- behind an NCName stand a colon, an NCName and a rest
pub record IsLocal (local rest text : List ℕ) : Type 0 where
  pub characters : chars local ≡ local_at (chars text)
  pub some : 0 < length (chars local)
  pub behind : chars rest ≡ drop (1 + length (chars local)) (chars text)

-- the NCName at the front of these characters, and what stands behind it
pub record IsWord (name rest text : List ℕ) : Type 0 where
  pub characters : chars name ≡ name_at text
  pub some : 0 < length (chars name)
  pub behind : chars rest ≡ drop (length (chars name)) text

-- the token stands at the front of these characters, and the rest behind it
pub record IsPiece (p : Piece) (q : plain.Piece) (text : List ℕ) : Type 0 where
  pub token : token_of p.token ≡ q.token
  pub behind : chars p.rest.now ≡ drop q.taken text

-- the piece that a text begins with is the defined one, which takes something
abbrev pub Cuts : Option Piece → Option plain.Piece → List ℕ → Type 0
Cuts None None text = Unit {0}
Cuts (Some p) (Some q) text = IsPiece p q text × (0 < q.taken)
Cuts None (Some q) text = ⊥
Cuts (Some p) None text = ⊥

-- the same, where it may take nothing
abbrev pub Begins : Piece → Option plain.Piece → List ℕ → Type 0
Begins p None text = ⊥
Begins p (Some q) text = IsPiece p q text

-- the piece that begins with a character that begins no number and no name
abbrev pub marked : Bool → ℕ → List ℕ → Option plain.Piece
marked after_operand c behind =
    if (c == 0x22) || (c == 0x27) then plain.literal_at c behind
    else (if c == 0x24 then plain.variable_at behind
    else plain.sign_at after_operand c behind)
