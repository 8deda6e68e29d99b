-- Bytes without an LF, and the place of the first LF.
use Rattle.std.proofs.Common.{◌≡◌, ℕ, suc, ◌+◌, ◌-◌, ◌<◌, ◌≤◌, Bool, true, false, not, ◌||◌, cond, ltb, List, []}
use Rattle.std.proofs.Common.{◌∷◌, ◌++◌, length, take, drop, Option, Some, None, MatchOption, IsTrue, refl, sym, ◌∙◌, ap, subst, arith}
use Rattle.std.specs.List.{list_any, position_or_len}
use Rattle.std.specs.Str.Lines.{strip_carriage_return}
use Rattle.std.proofs.lemmas.List.Folds.{list_any-append}
use Rattle.std.proofs.lemmas.List.{append_assoc, take_all, take-take, length-take-le}
use Rattle.std.proofs.lemmas.Bool.{ltb-true}
use Rattle.std.proofs.lemmas.Bool.Decides.{nat_tests}
use Rattle.spec_lines.specs.Lines.{HasNoNewline, is_newline}
use Rattle.xt_io.specs.Steps.{IsNewlineAt, EndsLine}

none_or : (a b : Bool) → IsTrue (not a) → IsTrue (not b) → IsTrue (not (a || b))
none_or true b h k = absurd (cc)
none_or false b h k = k

pub HasNoNewline-append : (xs ys : List ℕ) → HasNoNewline xs → HasNoNewline ys → HasNoNewline (xs ++ ys)
HasNoNewline-append xs ys h k = rw (list_any-append is_newline xs ys) (none_or (list_any is_newline xs) (list_any is_newline ys) h k)

-- how a first byte moves the place of the first LF
found_in : (b : ℕ) (bs : List ℕ) (t : Bool) → is_newline b ≡ t
    → (position_or_len is_newline bs < length bs → IsNewlineAt bs (position_or_len is_newline bs))
    → cond (not t) (1 + position_or_len is_newline bs) 0 < length (b ∷ bs)
    → IsNewlineAt (b ∷ bs) (cond (not t) (1 + position_or_len is_newline bs) 0)
found_in b bs true e h lt =
    let same : b ≡ 10 = grind (arith, nat_tests) in
    record { within = omega arith; first = refl; parts = ap (λ x. x ∷ bs) same }
found_in b bs false e h lt =
    let at : IsNewlineAt bs (position_or_len is_newline bs) = h (omega arith) in
    let next : 1 + position_or_len is_newline bs ≡ suc (position_or_len is_newline bs) = omega arith in
    let rest : drop (suc (position_or_len is_newline bs) + 1) (b ∷ bs) ≡ drop (position_or_len is_newline bs + 1) bs =
    let one : suc (position_or_len is_newline bs) + 1 ≡ suc (position_or_len is_newline bs + 1) = omega arith in
    ap (λ k. drop k (b ∷ bs)) one in
    subst (λ k. IsNewlineAt (b ∷ bs) k) (sym next) (record {
      within = omega (arith, at.within);
      first = none_or (is_newline b) (list_any is_newline (take (position_or_len is_newline bs) bs)) (ap not e) at.first;
      parts = ap (λ xs. b ∷ xs) (at.parts ∙ ap (λ xs. take (position_or_len is_newline bs) bs ++ 10 ∷ xs) (sym rest));
    })

pub found : (bytes : List ℕ) → position_or_len is_newline bytes < length bytes → IsNewlineAt bytes (position_or_len is_newline bytes)
found [] lt = absurd (omega arith)
found (b ∷ bs) lt = found_in b bs (is_newline b) refl (found bs) lt

missed_in : (b : ℕ) (bs : List ℕ) (t : Bool) → (length bs ≤ position_or_len is_newline bs → HasNoNewline bs)
    → length (b ∷ bs) ≤ cond (not t) (1 + position_or_len is_newline bs) 0 → IsTrue (not (t || list_any is_newline bs))
missed_in b bs true h le = absurd (omega arith)
missed_in b bs false h le = h (omega arith)

pub missed : (bytes : List ℕ) → length bytes ≤ position_or_len is_newline bytes → HasNoNewline bytes
missed [] le = refl
missed (b ∷ bs) le = missed_in b bs (is_newline b) (missed bs) le

picked : (bytes : List ℕ) (t : Bool) → ltb (position_or_len is_newline bytes) (length bytes) ≡ t
    → MatchOption (cond t (Some (position_or_len is_newline bytes)) None) (HasNoNewline bytes) (IsNewlineAt bytes)
picked bytes true e = found bytes (ltb-true _ _ e)
picked bytes false e = missed bytes (grind (arith, nat_tests))

-- what a search for the first LF answers
pub searched : (bytes : List ℕ) (answer : Option ℕ)
    → answer ≡ cond (ltb (position_or_len is_newline bytes) (length bytes)) (Some (position_or_len is_newline bytes)) None
    → MatchOption answer (HasNoNewline bytes) (IsNewlineAt bytes)
searched bytes answer e = subst (λ (a : Option ℕ). MatchOption a (HasNoNewline bytes) (IsNewlineAt bytes)) (sym e) (picked bytes _ refl)

-- the bytes gathered before those with the first LF
pub ends : (gathered bytes line : List ℕ) (place : ℕ) → HasNoNewline gathered → IsNewlineAt bytes place
    → line ≡ strip_carriage_return (gathered ++ take place bytes) → EndsLine (gathered ++ bytes) line (drop (place + 1) bytes)
ends gathered bytes line place none at e = record {
  raw = gathered ++ take place bytes;
  whole = HasNoNewline-append gathered (take place bytes) none at.first;
  parts = ap (λ xs. gathered ++ xs) at.parts ∙ sym (append_assoc gathered (take place bytes) (10 ∷ drop (place + 1) bytes));
  stripped = e;
}

strip_in : (l : List ℕ) (t : Bool) → 8 ≤ length l → take 7 (cond t (take (length l - 1) l) l) ≡ take 7 l
strip_in l true le = take-take 7 (length l - 1) l (omega arith)
strip_in l false le = refl

strip_front : (l : List ℕ) → 8 ≤ length l → take 7 (strip_carriage_return l) ≡ take 7 l
strip_front l le = strip_in l _ le

-- the first 8 bytes of a line with its CR tell its head
pub head_by_front : (raw : List ℕ) → take 7 (strip_carriage_return (take 8 raw)) ≡ take 7 (strip_carriage_return raw)
head_by_front raw = head_in raw (ltb (length raw) 8) refl
  where
    head_in : (l : List ℕ) (t : Bool) → ltb (length l) 8 ≡ t → take 7 (strip_carriage_return (take 8 l)) ≡ take 7 (strip_carriage_return l)
    head_in l true e = let short : length l ≤ 8 = grind (arith, nat_tests) in ap (λ xs. take 7 (strip_carriage_return xs)) (take_all 8 l short)
    head_in l false e =
        let long : 8 ≤ length l = grind (arith, nat_tests) in
        let front : 8 ≤ length (take 8 l) = omega (arith, length-take-le 8 l long) in
        strip_front (take 8 l) front ∙ take-take 7 8 l (omega arith) ∙ sym (strip_front l long)

strip_again_in : (l : List ℕ) (t : Bool) → take (length (cond t (take (length l - 1) l) l)) l ≡ cond t (take (length l - 1) l) l
strip_again_in l true = ap (λ n. take n l) (length-take-le (length l - 1) l (omega arith))
strip_again_in l false = take_all (length l) l (omega arith)

-- the line that is left of the gathered bytes
pub ends_line : (gathered bytes whole line rest : List ℕ) (place : ℕ) → HasNoNewline gathered → IsNewlineAt bytes place
    → whole ≡ gathered ++ take place bytes → line ≡ take (length (strip_carriage_return whole)) whole → rest ≡ drop (place + 1) bytes
    → EndsLine (gathered ++ bytes) line rest
ends_line gathered bytes whole line rest place none at is cut left =
    let line_is : line ≡ strip_carriage_return (gathered ++ take place bytes) = cut ∙ strip_again_in whole _ ∙ ap strip_carriage_return is in
    subst (λ xs. EndsLine (gathered ++ bytes) line xs) (sym left) (ends gathered bytes line place none at line_is)
