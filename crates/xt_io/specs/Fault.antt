-- What a fault of a reader of lines says of its source.
use Rattle.std.specs.Prelude.{ℕ, ◌≡◌, Result, Ok, Err}
use Rattle.spec_lines.specs.Outside.{HasRisen}
use Rattle.xt_io.specs.declared.fault.LineFault.{LineFault}
use Rattle.xt_io.specs.declared.fault.LineFault.TheVariants as line
use Rattle.xt_io.specs.declared.fault.SkipFault.{SkipFault}
use Rattle.xt_io.specs.declared.fault.SkipFault.TheVariants as skip

-- `Failed` comes only where the count of faults has risen, and any other answer leaves the count as it was
abbrev pub HasLineCause : {T : Type 0} → ℕ → ℕ → Result T LineFault → Type 0
HasLineCause before now (Ok _) = now ≡ before
HasLineCause before now (Err line.Memory) = now ≡ before
HasLineCause before now (Err line.Failed) = HasRisen before now
HasLineCause before now (Err line.Over) = now ≡ before

abbrev pub HasSkipCause : {T : Type 0} → ℕ → ℕ → Result T SkipFault → Type 0
HasSkipCause before now (Ok _) = now ≡ before
HasSkipCause before now (Err skip.Failed) = HasRisen before now
HasSkipCause before now (Err skip.Over) = now ≡ before

-- how many bytes were taken beside those that may be: one, where it showed that the source goes on
abbrev pub line_extra : {T : Type 0} → Result T LineFault → ℕ
line_extra (Ok _) = 0
line_extra (Err line.Memory) = 0
line_extra (Err line.Failed) = 0
line_extra (Err line.Over) = 1

abbrev pub skip_extra : {T : Type 0} → Result T SkipFault → ℕ
skip_extra (Ok _) = 0
skip_extra (Err skip.Failed) = 0
skip_extra (Err skip.Over) = 1
