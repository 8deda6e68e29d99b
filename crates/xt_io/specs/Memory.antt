-- Sources and sinks over memory, of which some calls fail.
use Rattle.std.specs.Prelude.{ℕ, ◌+◌, List, ◌++◌, length, drop, min, nat_le, if◌then◌else◌, Option, Some, None}
use Rattle.std.specs.Option.{option_and_then}

pub record MemorySource : Type 0 where
  -- the bytes left
  pub left : List ℕ
  -- the numbers of the calls that fail, counted from 1
  pub fails : List ℕ
  -- the number of the last call
  pub calls : ℕ
  pub faults : ℕ
  -- how many bytes a call gives at most
  pub most : ℕ

pub record MemorySink : Type 0 where
  -- the bytes written
  pub bytes : List ℕ
  -- how many may be written
  pub room : ℕ
  -- the numbers of the calls that fail, counted from 1
  pub fails : List ℕ
  -- the number of the last call
  pub calls : ℕ
  pub faults : ℕ

-- a count of calls, or of faults, after one more
abbrev pub one_more : ℕ → ℕ
one_more count = min (count + 1) 18446744073709551615

-- after a read of so many bytes: one more call is counted
abbrev pub after_read : MemorySource → ℕ → MemorySource
after_read source count = record source { left = drop count source.left; calls = one_more source.calls }

-- after a read that failed: one more call is counted, and one more fault
abbrev pub after_failed_read : MemorySource → MemorySource
after_failed_read source = record source { calls = one_more source.calls; faults = one_more source.faults }

-- after a write of these bytes, and after one that failed, likewise
abbrev pub after_write : MemorySink → List ℕ → MemorySink
after_write sink piece = record sink { bytes = sink.bytes ++ piece; calls = one_more sink.calls }

abbrev pub after_failed_write : MemorySink → MemorySink
after_failed_write sink = record sink { calls = one_more sink.calls; faults = one_more sink.faults }

-- a sink that takes all bytes
pub record MemoryTold : Type 0 where
  -- the bytes written, as long as they are told
  pub written : Option (List ℕ)
  -- how many bytes are told at most
  pub room : ℕ

-- what it tells after one more piece
abbrev pub told_after : MemoryTold → List ℕ → Option (List ℕ)
told_after sink piece = option_and_then (λ before. if nat_le (length (before ++ piece)) sink.room then Some (before ++ piece) else None) sink.written
