-- What is ahead of a reader, line by line: how the lines of bytes begin.
use Rattle.std.proofs.Common.{◌≡◌, ℕ, suc, ◌+◌, ◌-◌, ◌<◌, ◌≤◌, Bool, true, false, List, [], ◌∷◌, ◌++◌, length, take}
use Rattle.std.proofs.Common.{refl, ◌∙◌, ap, arith, length-append}
use Rattle.std.specs.Prelude.{map, not, nat_le, ◌||◌}
use Rattle.std.specs.List.{list_any}
use Rattle.std.specs.Str.Lines.{strip_carriage_return}
use Rattle.std.proofs.lemmas.Bool.Decides.{nat_tests}
use Rattle.spec_lines.specs.Lines.{is_newline, Pieces, pieces, with_byte, joined, ended_lines, last_line, lines_within, HasNoNewline}

neither : (x y : Bool) → not (x || y) ≡ true → (x ≡ false) × (not y ≡ true)
neither true y e = absurd (cc)
neither false y e = (refl, e)

no_newline : (b : ℕ) (bs : List ℕ) → HasNoNewline (b ∷ bs) → (is_newline b ≡ false) × HasNoNewline bs
no_newline b bs h = neither (is_newline b) (list_any is_newline bs) h

with_byte-other : (b : ℕ) (p : Pieces) → is_newline b ≡ false → with_byte b p ≡ joined b p.ended p.last
with_byte-other b p e = rw e refl

-- bytes without LF in front of an LF are its piece
pub pieces-ended : (raw rest : List ℕ) → HasNoNewline raw
    → pieces (raw ++ 10 ∷ rest) ≡ record { ended = raw ∷ (pieces rest).ended; last = (pieces rest).last }
pieces-ended [] rest h = refl
pieces-ended (b ∷ bs) rest h =
    let n = no_newline b bs h in
    with_byte-other b _ n.0 ∙ ap (λ (p : Pieces). joined b p.ended p.last) (pieces-ended bs rest n.1)

-- bytes without LF have no piece but the last
pub pieces-none : (raw : List ℕ) → HasNoNewline raw → pieces raw ≡ record { ended = []; last = raw }
pieces-none [] h = refl
pieces-none (b ∷ bs) h =
    let n = no_newline b bs h in
    with_byte-other b _ n.0 ∙ ap (λ (p : Pieces). joined b p.ended p.last) (pieces-none bs n.1)

pub ended_lines-ended : (raw rest : List ℕ) → HasNoNewline raw → ended_lines (raw ++ 10 ∷ rest) ≡ strip_carriage_return raw ∷ ended_lines rest
ended_lines-ended raw rest h = ap (λ (p : Pieces). map strip_carriage_return p.ended) (pieces-ended raw rest h)

pub ended_lines-none : (raw : List ℕ) → HasNoNewline raw → ended_lines raw ≡ []
ended_lines-none raw h = ap (λ (p : Pieces). map strip_carriage_return p.ended) (pieces-none raw h)

take-past : (raw : List ℕ) (allowance less : ℕ) (rest : List ℕ) → allowance ≡ length raw + 1 + less
    → take allowance (raw ++ 10 ∷ rest) ≡ raw ++ 10 ∷ take less rest
take-past [] allowance less rest e = let f : allowance ≡ suc less = omega arith in rw f refl
take-past (b ∷ bs) allowance less rest e =
    let f : allowance ≡ suc (allowance - 1) = omega arith in
    let g : allowance - 1 ≡ length bs + 1 + less = omega arith in
    rw f (ap (λ (l : List ℕ). b ∷ l) (take-past bs (allowance - 1) less rest g))

-- the lines within an allowance, where a line is whole in it
pub lines_within-ended : (allowance less : ℕ) (raw rest : List ℕ) → HasNoNewline raw → allowance ≡ length raw + 1 + less
    → lines_within allowance (raw ++ 10 ∷ rest) ≡ strip_carriage_return raw ∷ lines_within less rest
lines_within-ended allowance less raw rest h e = go (nat_le (length rest) less) refl
  where
    same : nat_le (length (raw ++ 10 ∷ rest)) allowance ≡ nat_le (length rest) less
    same = rw length-append (grind (arith, nat_tests))

    part : take allowance (raw ++ 10 ∷ rest) ≡ raw ++ 10 ∷ take less rest
    part = take-past raw allowance less rest e

    go : (t : Bool) → nat_le (length rest) less ≡ t
        → lines_within allowance (raw ++ 10 ∷ rest) ≡ strip_carriage_return raw ∷ lines_within less rest
    go true is = rw (same, is) (ap (λ (p : Pieces). map strip_carriage_return p.ended ++ last_line p.last) (pieces-ended raw rest h))
    go false is = rw (same, is) (ap ended_lines part ∙ ended_lines-ended raw (take less rest) h)

-- where nothing is ahead
pub lines_within-nil : (allowance : ℕ) → lines_within allowance [] ≡ []
lines_within-nil allowance = let e : nat_le 0 allowance ≡ true = grind (arith, nat_tests) in rw e refl

-- where all that is ahead is a line that no LF ends
pub lines_within-last : (allowance : ℕ) (line : List ℕ) → HasNoNewline line → 0 < length line → length line ≤ allowance
    → lines_within allowance line ≡ line ∷ []
lines_within-last allowance line h some fits =
    let e : nat_le (length line) allowance ≡ true = grind (arith, nat_tests) in
    rw e (ap (λ (p : Pieces). map strip_carriage_return p.ended ++ last_line p.last) (pieces-none line h) ∙ single line some)
  where
    single : (l : List ℕ) → 0 < length l → last_line l ≡ l ∷ []
    single [] less = absurd (omega arith)
    single (b ∷ bs) less = refl

-- where the next line is not whole in the allowance
pub lines_within-over : (allowance : ℕ) (bytes : List ℕ) → HasNoNewline (take allowance bytes) → allowance < length bytes
    → lines_within allowance bytes ≡ []
lines_within-over allowance bytes h more =
    let e : nat_le (length bytes) allowance ≡ false = grind (arith, nat_tests) in
    rw e (ended_lines-none (take allowance bytes) h)
