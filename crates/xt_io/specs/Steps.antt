-- The steps of a reader of lines.
use Rattle.std.specs.Prelude.{ℕ, ◌≡◌, ◌+◌, ◌<◌, List, [], ◌∷◌, ◌++◌, length, take, drop, Option, None, IfSome, IsSomeAnd}
use Rattle.std.specs.Prelude.{MatchOption}
use Rattle.std.specs.Str.Lines.{strip_carriage_return}
use Rattle.spec_lines.specs.Lines.{HasNoNewline, Reader}

-- these bytes were read from what was left, where the source tells it
abbrev pub Reads : Option (List ℕ) → List ℕ → Option (List ℕ) → Type 0
Reads before piece after = MatchOption before (after ≡ None) (λ left. IsSomeAnd after (λ rest. left ≡ piece ++ rest))

-- the first LF stands at this place
pub record IsNewlineAt (bytes : List ℕ) (place : ℕ) : Type 0 where
  pub within : place < length bytes
  pub first : HasNoNewline (take place bytes)
  pub parts : bytes ≡ take place bytes ++ 10 ∷ drop (place + 1) bytes

-- the bytes begin with this line and the LF that ends it
pub record EndsLine (bytes line rest : List ℕ) : Type 0 where
  pub raw : List ℕ
  pub whole : HasNoNewline raw
  pub parts : bytes ≡ raw ++ 10 ∷ rest
  pub stripped : line ≡ strip_carriage_return raw

-- the first 8 bytes of what was passed over, with more passed over, up to an LF
pub record SkipsEnded (old bytes new rest : List ℕ) : Type 0 where
  pub raw : List ℕ
  pub whole : HasNoNewline raw
  pub parts : bytes ≡ raw ++ 10 ∷ rest
  pub front : new ≡ take 8 (old ++ raw)

-- the same where there is no LF
pub record SkipsAll (old bytes new rest : List ℕ) : Type 0 where
  pub whole : HasNoNewline bytes
  pub rest_empty : rest ≡ []
  pub front : new ≡ take 8 (old ++ bytes)

-- the bytes that were kept and those that were taken have no LF
abbrev pub TakesNoNewline : Reader → Option (List ℕ) → Option (List ℕ) → Type 0
TakesNoNewline old before after =
    IfSome before (λ left. IsSomeAnd after (λ rest. (taken : List ℕ) × (left ≡ taken ++ rest) × HasNoNewline (old.kept ++ taken)))
