-- The steps of a reader, in what it holds.
use Rattle.std.proofs.Common.{◌≡◌, ℕ, ◌<◌, ◌≤◌, Bool, true, false, ltb, List, [], ◌∷◌, ◌++◌, length, take, Option, Some}
use Rattle.std.proofs.Common.{None, MatchOption, refl, sym, ◌∙◌, ap, subst, arith, append-nil}
use Rattle.std.proofs.lemmas.List.{take_all, take-take, take-append-le, length-take-le, length-take}
use Rattle.std.proofs.lemmas.Bool.Decides.{nat_tests}
use Rattle.std.specs.Str.Lines.{strip_carriage_return}
use Rattle.spec_lines.specs.Lines.{head_of, Reader, HasNoNewline, GivesLine, IsFinished, IsOver, TakesUpTo}
use Rattle.xt_io.specs.declared.line_buffer.LineBuffer.{LineBuffer}
use Rattle.xt_io.specs.LineBuffer.{kept, reader_of, IsStill, FillsMore, FillsEnd, FillsOver}
use Rattle.xt_io.specs.Steps.{EndsLine, SkipsEnded, SkipsAll}
use Rattle.xt_io.proofs.Newlines.{HasNoNewline-append, head_by_front}
use Rattle.xt_io.proofs.Reading.{Passed, Ends, more, pass, line, last_line, finished, over, takes_over}

-- the line that was taken out
pub given : (old : Reader) (before : Option (List ℕ)) (cur new : LineBuffer) (out : List ℕ) (now : Option (List ℕ))
    → Passed old before [] (reader_of cur) now → EndsLine (kept cur) out (kept new) → IsStill cur new → GivesLine old before out (reader_of new) now
given old before cur new out now p ends still =
    line old before [] ends.raw out (reader_of cur) (reader_of new) now p ends.whole ends.parts ends.stripped still.room still.at_end

-- all bytes were gathered
pub gathered : (old : Reader) (before : Option (List ℕ)) (cur new : LineBuffer) (now : Option (List ℕ)) → Passed old before [] (reader_of cur) now
    → new.gathered.items ≡ kept cur → new.buffer ≡ [] → IsStill cur new → Passed old before [] (reader_of new) now
gathered old before cur new now p all empty still =
    pass old before [] [] (reader_of cur) (reader_of new) now p refl
    (sym (ap (λ xs. new.gathered.items ++ xs) empty ∙ append-nil new.gathered.items ∙ all)) still.room still.at_end

-- more bytes were read
pub filled : (old : Reader) (before : Option (List ℕ)) (passed : List ℕ) (cur new : LineBuffer) (now after : Option (List ℕ))
    → Passed old before passed (reader_of cur) now → cur.buffer ≡ [] → new.gathered.items ≡ cur.gathered.items → FillsMore cur now new after
    → Passed old before passed (reader_of new) after
filled old before passed cur new now after p empty same fill =
    more old before passed new.buffer (reader_of cur) (reader_of new) now after p fill.bytes
    (ap (λ xs. xs ++ new.buffer) (same ∙ sym (append-nil cur.gathered.items) ∙ ap (λ xs. cur.gathered.items ++ xs) (sym empty))) fill.counted
    fill.asked fill.at_end

pub ends_at : (cur new : LineBuffer) (now after : Option (List ℕ)) → FillsEnd cur now new after → Ends cur.at_end now after
ends_at cur new now after fill = record { unread = fill.unread; bytes = fill.bytes }

pub over_at : (old : Reader) (before : Option (List ℕ)) (passed : List ℕ) (cur new : LineBuffer) (now after : Option (List ℕ))
    → Passed old before passed (reader_of cur) now → HasNoNewline (kept cur) → FillsOver cur now new after → IsOver old before
over_at old before passed cur new now after p none fill = over old before passed (reader_of cur) now after p none fill.full fill.asked fill.bytes

pub takes_over_at : (old : Reader) (before : Option (List ℕ)) (passed : List ℕ) (cur new : LineBuffer) (now after : Option (List ℕ))
    → Passed old before passed (reader_of cur) now → FillsOver cur now new after → TakesUpTo 1 old before (reader_of new) after
takes_over_at old before passed cur new now after p fill =
    takes_over old before passed (reader_of cur) now after (reader_of new) p fill.full fill.room fill.bytes

-- no LF is in gathered bytes alone
pub none_kept : (cur : LineBuffer) → cur.buffer ≡ [] → HasNoNewline (kept cur)
none_kept cur empty = HasNoNewline-append cur.gathered.items cur.buffer cur.searched (subst HasNoNewline (sym empty) refl)

front_more_in : (passed raw : List ℕ) (t : Bool) → ltb (length passed) 8 ≡ t → take 8 (take 8 passed ++ raw) ≡ take 8 (passed ++ raw)
front_more_in passed raw true e = let short : length passed ≤ 8 = grind (arith, nat_tests) in ap (λ xs. take 8 (xs ++ raw)) (take_all 8 passed short)
front_more_in passed raw false e =
    let long : 8 ≤ length passed = grind (arith, nat_tests) in
    let whole : 8 ≤ length (take 8 passed) = omega (arith, length-take-le 8 passed long) in
    take-append-le 8 (take 8 passed) raw whole ∙ take-take 8 8 passed (omega arith) ∙ sym (take-append-le 8 passed raw long)

front_more : (passed raw front new : List ℕ) → front ≡ take 8 passed → new ≡ take 8 (front ++ raw) → new ≡ take 8 (passed ++ raw)
front_more passed raw front new e h = h ∙ ap (λ xs. take 8 (xs ++ raw)) e ∙ front_more_in passed raw _ refl

-- what was passed over, by its first 8 bytes
abbrev pub PassedBy : Reader → Option (List ℕ) → List ℕ → LineBuffer → Option (List ℕ) → Type 0
PassedBy old before front new after = (passed : List ℕ) × (front ≡ take 8 passed) × Passed old before passed (reader_of new) after

-- nothing is gathered, so that the buffer is all that is kept
buffer_kept : (cur : LineBuffer) → cur.gathered.items ≡ [] → kept cur ≡ cur.buffer
buffer_kept cur e = ap (λ xs. xs ++ cur.buffer) e

pub skipped_line : (old : Reader) (before : Option (List ℕ)) (cur new : LineBuffer) (front seen head : List ℕ) (now : Option (List ℕ))
    → PassedBy old before front cur now → cur.gathered.items ≡ [] → new.gathered.items ≡ cur.gathered.items
    → SkipsEnded front cur.buffer seen new.buffer → IsStill cur new → head ≡ take 7 (strip_carriage_return seen)
    → (out : List ℕ) × (head ≡ head_of out) × GivesLine old before out (reader_of new) now
skipped_line old before cur new front seen head now p empty same skip still is = (
  strip_carriage_return (p.0 ++ skip.raw),
  is ∙ ap (λ xs. take 7 (strip_carriage_return xs)) (front_more p.0 skip.raw front seen p.1 skip.front) ∙ head_by_front (p.0 ++ skip.raw),
  line old before p.0 skip.raw (strip_carriage_return (p.0 ++ skip.raw)) (reader_of cur) (reader_of new) now p.2 skip.whole
      (buffer_kept cur empty ∙ skip.parts ∙ ap (λ xs. skip.raw ++ 10 ∷ xs) (sym (buffer_kept new (same ∙ empty)))) refl still.room still.at_end,
)

pub skipped_all : (old : Reader) (before : Option (List ℕ)) (cur new : LineBuffer) (front seen : List ℕ) (now : Option (List ℕ))
    → PassedBy old before front cur now → cur.gathered.items ≡ [] → new.gathered.items ≡ cur.gathered.items
    → SkipsAll front cur.buffer seen new.buffer → IsStill cur new → PassedBy old before seen new now
skipped_all old before cur new front seen now p empty same skip still = (
  p.0 ++ cur.buffer,
  front_more p.0 cur.buffer front seen p.1 skip.front,
  pass old before p.0 cur.buffer (reader_of cur) (reader_of new) now p.2 skip.whole
      (buffer_kept cur empty ∙ sym (append-nil cur.buffer) ∙ ap (λ xs. cur.buffer ++ xs) (sym (buffer_kept new (same ∙ empty) ∙ skip.rest_empty)))
      still.room still.at_end,
)

pub skipped_more : (old : Reader) (before : Option (List ℕ)) (cur new : LineBuffer) (front : List ℕ) (now after : Option (List ℕ))
    → PassedBy old before front cur now → cur.buffer ≡ [] → new.gathered.items ≡ cur.gathered.items → FillsMore cur now new after
    → PassedBy old before front new after
skipped_more old before cur new front now after p empty same fill = (p.0, p.1, filled old before p.0 cur new now after p.2 empty same fill)

none_left : (l : List ℕ) → length l ≡ 0 → l ≡ []
none_left [] h = refl
none_left (x ∷ xs) h = absurd (omega arith)

-- the head of the last line, if there is one
pub skipped_last : (old : Reader) (before : Option (List ℕ)) (cur new : LineBuffer) (front : List ℕ) (now after : Option (List ℕ))
    (found : Option (List ℕ)) → PassedBy old before front cur now → cur.gathered.items ≡ [] → cur.buffer ≡ []
    → new.gathered.items ≡ cur.gathered.items → FillsEnd cur now new after
    → MatchOption found (front ≡ []) (λ head. (0 < length front) × (head ≡ take 7 front))
    → MatchOption found (IsFinished old before) (λ head. (out : List ℕ) × (head ≡ head_of out) × GivesLine old before out (reader_of new) after)
skipped_last old before cur new front now after None p none empty same fill h =
    let gone : p.0 ≡ [] = none_left p.0 (omega (arith, ap length p.1, ap length h, length-take 8 p.0)) in
    finished old before p.0 (reader_of cur) now after p.2 (ap (λ xs. xs ++ kept cur) gone ∙ buffer_kept cur none ∙ empty)
    (ends_at cur new now after fill)
skipped_last old before cur new front now after (Some head) p none empty same fill h =
    let all : p.0 ++ kept cur ≡ p.0 = ap (λ xs. p.0 ++ xs) (buffer_kept cur none ∙ empty) ∙ append-nil p.0 in (
      p.0,
      h.1 ∙ ap (λ xs. take 7 xs) p.1 ∙ take-take 7 8 p.0 (omega arith),
      last_line old before p.0 p.0 (reader_of cur) (reader_of new) now after p.2 (none_kept cur empty)
          (omega (arith, ap length all, ap length p.1, length-take 8 p.0, h.0)) (ends_at cur new now after fill) (sym all)
          (buffer_kept new (same ∙ none) ∙ fill.buffer) fill.room fill.at_end,
    )
