-- The lines of bytes. A line is ended by an LF (10); one CR (13) directly before the LF is no part of it. What
-- follows the last LF is a line too, unless it is empty, and keeps its CR.
use Rattle.std.specs.Prelude.{ℕ, ◌≡◌, ◌+◌, ◌<◌, ◌≤◌, ◌⊎◌, Bool, false, not, List, [], ◌∷◌, ◌++◌, map, length, take, ◌==◌, nat_le, if◌then◌else◌, IsTrue, Option, Some, IfSome, IsSomeAnd}
use Rattle.std.specs.Option.{option_map}
use Rattle.std.specs.List.{list_any}
use Rattle.std.specs.Str.Lines.{strip_carriage_return}

abbrev pub is_newline : ℕ → Bool
is_newline b = b == 10

-- bytes cut at each LF: what stands before each LF, and what follows the last
pub record Pieces : Type 0 where
  pub ended : List (List ℕ)
  pub last : List ℕ

-- one more byte in front of the first piece
abbrev pub joined : ℕ → List (List ℕ) → List ℕ → Pieces
joined b [] last = record { ended = []; last = b ∷ last }
joined b (piece ∷ pieces) last = record { ended = (b ∷ piece) ∷ pieces; last = last }

-- one more byte in front: an LF ends an empty piece
abbrev pub with_byte : ℕ → Pieces → Pieces
with_byte b p = if is_newline b then record { ended = [] ∷ p.ended; last = p.last } else joined b p.ended p.last

abbrev pub pieces : List ℕ → Pieces
pieces [] = record { ended = []; last = [] }
pieces (b ∷ bs) = with_byte b (pieces bs)

-- the lines that an LF ends
abbrev pub ended_lines : List ℕ → List (List ℕ)
ended_lines bytes = map strip_carriage_return (pieces bytes).ended

-- what follows the last LF, as a line
abbrev pub last_line : List ℕ → List (List ℕ)
last_line [] = []
last_line (b ∷ bs) = (b ∷ bs) ∷ []

-- the lines that are whole within the first `limit` bytes
abbrev pub lines_within : ℕ → List ℕ → List (List ℕ)
lines_within limit bytes = if nat_le (length bytes) limit then ended_lines bytes ++ last_line (pieces bytes).last else ended_lines (take limit bytes)

-- what is known of a line without memory for it: its first 7 bytes, and so how many of them it has
abbrev pub head_of : List ℕ → List ℕ
head_of line = take 7 line

-- no byte of these ends a line
abbrev pub HasNoNewline : List ℕ → Type 0
HasNoNewline bytes = IsTrue (not (list_any is_newline bytes))

-- the bytes begin with this line, ended by an LF, and then comes the rest
pub record BeginsWithEnded (bytes line rest : List ℕ) : Type 0 where
  pub raw : List ℕ
  pub one_line : HasNoNewline raw
  pub cut : bytes ≡ raw ++ 10 ∷ rest
  pub line_is : line ≡ strip_carriage_return raw

-- the bytes are this line, which no LF ends, and nothing follows it
pub record IsLastLine (bytes line rest : List ℕ) : Type 0 where
  pub one_line : HasNoNewline bytes
  pub some : 0 < length bytes
  pub line_is : line ≡ bytes
  pub nothing : rest ≡ []

-- the bytes begin with this line, and then comes the rest
abbrev pub BeginsWith : List ℕ → List ℕ → List ℕ → Type 0
BeginsWith bytes line rest = BeginsWithEnded bytes line rest ⊎ IsLastLine bytes line rest

-- what a reader of lines holds
pub record Reader : Type 0 where
  -- the bytes that it has taken and not yet given in a line
  pub kept : List ℕ
  -- how many more it may take
  pub room : ℕ
  -- whether it has seen the end of the source; then it asks no more
  pub at_end : Bool

-- all the bytes ahead of a reader, where its source tells those that are left
abbrev pub ahead : Reader → Option (List ℕ) → Option (List ℕ)
ahead reader left = if reader.at_end then Some reader.kept else option_map (λ bytes. reader.kept ++ bytes) left

-- how many of the bytes ahead may be read
abbrev pub allowance : Reader → ℕ
allowance reader = length reader.kept + reader.room

-- A line was given: the bytes ahead began with it, and the rest is ahead now. The allowance falls by the bytes that
-- were given, and in any case by one. Where the end of the source was not seen, an LF ended the line.
pub record GivesLine (old : Reader) (before : Option (List ℕ)) (line : List ℕ) (new : Reader) (after : Option (List ℕ)) : Type 0 where
  pub begins : IfSome (ahead old before) (λ bytes. IsSomeAnd (ahead new after) (λ rest. BeginsWith bytes line rest × (length bytes + allowance new ≡ length rest + allowance old)))
  pub fewer : allowance new < allowance old
  pub not_last : new.at_end ≡ false → (old.at_end ≡ false) × IfSome (ahead old before) (λ bytes. IsSomeAnd (ahead new after) (λ rest. BeginsWithEnded bytes line rest))

-- nothing is ahead
abbrev pub IsFinished : Reader → Option (List ℕ) → Type 0
IsFinished reader left = IfSome (ahead reader left) (λ bytes. bytes ≡ [])

-- the next line is not whole within the allowance, and the bytes go on after that
abbrev pub IsOver : Reader → Option (List ℕ) → Type 0
IsOver reader left = IfSome (ahead reader left) (λ bytes. HasNoNewline (take (allowance reader) bytes) × (allowance reader < length bytes))

-- what was ahead is ahead, and as much of it may be read
pub record IsKept (old : Reader) (before : Option (List ℕ)) (new : Reader) (after : Option (List ℕ)) : Type 0 where
  pub same : ahead new after ≡ ahead old before
  pub as_much : allowance new ≡ allowance old
  pub not_at_end : new.at_end ≡ false → old.at_end ≡ false

-- no byte was taken from the source but those that the room went down by, and `extra` more
pub record TakesUpTo (extra : ℕ) (old : Reader) (before : Option (List ℕ)) (new : Reader) (after : Option (List ℕ)) : Type 0 where
  pub bytes : IfSome before (λ left. IsSomeAnd after (λ rest. (taken : List ℕ) × (left ≡ taken ++ rest) × (length taken + new.room ≤ old.room + extra)))
