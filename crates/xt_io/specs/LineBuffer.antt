-- The buffer of a reader of lines.
use Rattle.std.specs.Prelude.{ℕ, ◌≡◌, ◌+◌, ◌<◌, List, [], ◌++◌, length, true, false, Option, IfSome, IsSomeAnd}
use Rattle.spec_lines.specs.Lines.{Reader}
use Rattle.xt_io.specs.declared.line_buffer.LineBuffer.{LineBuffer}
use Rattle.xt_io.specs.declared.line_buffer.Filled.{Filled}
use Rattle.xt_io.specs.declared.line_buffer.Filled.TheVariants.{More, End, Over}
use Rattle.xt_io.specs.Steps.{Reads}

-- the bytes taken and not yet given
abbrev pub kept : LineBuffer → List ℕ
kept buffer = buffer.gathered.items ++ buffer.buffer

abbrev pub reader_of : LineBuffer → Reader
reader_of buffer = record { kept = kept buffer; room = buffer.room; at_end = buffer.at_end }

-- no byte was read
pub record IsStill (old new : LineBuffer) : Type 0 where
  pub room : new.room ≡ old.room
  pub at_end : new.at_end ≡ old.at_end

-- more bytes were read
pub record FillsMore (old : LineBuffer) (before : Option (List ℕ)) (new : LineBuffer) (after : Option (List ℕ)) : Type 0 where
  pub asked : old.at_end ≡ false
  pub at_end : new.at_end ≡ false
  pub some : 0 < length new.buffer
  pub counted : length new.buffer + new.room ≡ old.room
  pub bytes : Reads before new.buffer after

-- the end was seen, now or before
pub record FillsEnd (old : LineBuffer) (before : Option (List ℕ)) (new : LineBuffer) (after : Option (List ℕ)) : Type 0 where
  pub buffer : new.buffer ≡ []
  pub room : new.room ≡ old.room
  pub at_end : new.at_end ≡ true
  pub unread : old.at_end ≡ true → after ≡ before
  pub bytes : old.at_end ≡ false → IfSome before (λ left. (left ≡ []) × IsSomeAnd after (λ rest. rest ≡ []))

-- one byte was read that may not be taken
pub record FillsOver (old : LineBuffer) (before : Option (List ℕ)) (new : LineBuffer) (after : Option (List ℕ)) : Type 0 where
  pub asked : old.at_end ≡ false
  pub at_end : new.at_end ≡ false
  pub full : old.room ≡ 0
  pub room : new.room ≡ 0
  pub bytes : IfSome before (λ left. IsSomeAnd after (λ rest. (taken : List ℕ) × (left ≡ taken ++ rest) × (length taken ≡ 1)))

abbrev pub Fills : Filled → LineBuffer → Option (List ℕ) → LineBuffer → Option (List ℕ) → Type 0
Fills More old before new after = FillsMore old before new after
Fills End old before new after = FillsEnd old before new after
Fills Over old before new after = FillsOver old before new after
