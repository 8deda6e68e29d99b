-- The first line that is not UTF-8 is the one that is answered.
use Rattle.std.proofs.Common.{◌≡◌, ℕ, ◌+◌, ◌<◌, ◌≤◌, Bool, true, false, cond, List, [], ◌∷◌, ◌++◌, Option, None, Some, refl, sym, ap, ◌∙◌, arith, le-ltb, length, get_or, drop, drop-cons, add-one}
use Rattle.std.specs.Prelude.{not, IfSome, MatchResult, Result, Ok, Err, is_ok}
use Rattle.std.specs.List.{enumerate_from}
use Rattle.std.specs.Option.{option_map}
use Rattle.std.specs.Str.{is_utf8, IsUtf8}
use Rattle.std.proofs.lemmas.Str.{is_utf8-from_IsUtf8}
use Rattle.spec_document.specs.Fault.{fault_if, least, lesser}
use Rattle.spec_document.specs.Body.{not_utf8}
use Rattle.xt_build.proofs.Reading.{is_not_utf8}
use Rattle.xt_held.specs.Unread.{first_unread, unread_at}
use denote.Ref.{Bor}

-- it is none before the first line
not_before : (n : ℕ) (lines : List (List ℕ)) → IfSome (first_unread n lines) (λ line. n ≤ line)
not_before n [] = tt
not_before n (line ∷ lines) = by (is_utf8 line) (not_before (n + 1) lines)
  where
    later : (o : Option ℕ) → IfSome o (λ line. n + 1 ≤ line) → IfSome o (λ line. n ≤ line)
    later None h = tt
    later (Some k) h = omega arith

    by : (b : Bool) → IfSome (first_unread (n + 1) lines) (λ line. n + 1 ≤ line) → IfSome (cond b (first_unread (n + 1) lines) (Some n)) (λ line. n ≤ line)
    by true h = later (first_unread (n + 1) lines) h
    by false h = omega arith

is_least : (n : ℕ) (o : Option ℕ) → IfSome o (λ line. n + 1 ≤ line) → lesser (unread_at n) (option_map unread_at o) ≡ unread_at n
is_least n None h = refl
is_least n (Some k) h = let more : n ≤ k = omega arith in ap (λ b. cond b (unread_at k) (unread_at n)) (le-ltb k n more)

pub least_unread : (n : ℕ) (lines : List (List ℕ)) → least (not_utf8 (enumerate_from n lines)) ≡ option_map unread_at (first_unread n lines)
least_unread n [] = refl
least_unread n (line ∷ lines) = by (is_utf8 line) (least_unread (n + 1) lines)
  where
    by : (b : Bool) → least (not_utf8 (enumerate_from (n + 1) lines)) ≡ option_map unread_at (first_unread (n + 1) lines)
        → least (fault_if (not b) 2 n ++ not_utf8 (enumerate_from (n + 1) lines)) ≡ option_map unread_at (cond b (first_unread (n + 1) lines) (Some n))
    by true h = h
    by false h =
        ap (λ o. Some (lesser (unread_at n) o)) h ∙ ap Some (is_least n (first_unread (n + 1) lines) (not_before (n + 1) lines))

-- the lines from an index on begin with the one there
from : (i : ℕ) (line : List ℕ) (lines : List (List ℕ)) → i < length lines → line ≡ get_or lines i line
    → first_unread (1 + i) (drop i lines) ≡ cond (is_utf8 line) (first_unread (1 + (i + 1)) (drop (i + 1) lines)) (Some (i + 1))
from i line lines h at =
    let front : drop i lines ≡ line ∷ drop (i + 1) lines = drop-cons lines i line h ∙ (λ j. sym at j ∷ drop (sym (add-one i) j) lines) in
    let next : 1 + i + 1 ≡ 1 + (i + 1) = omega arith in
    let here : 1 + i ≡ i + 1 = omega arith in
    ap (first_unread (1 + i)) front ∙ λ j. cond (is_utf8 line) (first_unread (next j) (drop (i + 1) lines)) (Some (here j))

-- a line that is UTF-8 is not the first that is not, and one that is not is
pub past : (i : ℕ) (line : List ℕ) (lines : List (List ℕ)) → i < length lines → line ≡ get_or lines i line → is_utf8 line ≡ true
    → first_unread (1 + i) (drop i lines) ≡ first_unread 1 lines → first_unread (1 + (i + 1)) (drop (i + 1) lines) ≡ first_unread 1 lines
past i line lines h at e all =
    sym (from i line lines h at ∙ ap (λ b. cond b (first_unread (1 + (i + 1)) (drop (i + 1) lines)) (Some (i + 1))) e) ∙ all

pub met : (i : ℕ) (line : List ℕ) (lines : List (List ℕ)) → i < length lines → line ≡ get_or lines i line → is_utf8 line ≡ false
    → first_unread (1 + i) (drop i lines) ≡ first_unread 1 lines → Some (i + 1) ≡ first_unread 1 lines
met i line lines h at e all =
    sym (from i line lines h at ∙ ap (λ b. cond b (first_unread (1 + (i + 1)) (drop (i + 1) lines)) (Some (i + 1))) e) ∙ all

-- what `from_utf8` tells
pub tested : {E : Type 0} (bytes : List ℕ) (r : Result (Bor (List ℕ)) E) (Q : E → Type 0)
    → MatchResult r (λ text. (text.now ≡ bytes) × IsUtf8 bytes) (λ e. (IsUtf8 bytes → ⊥) × Q e) → is_ok r ≡ is_utf8 bytes
tested bytes (Ok text) Q h = sym (is_utf8-from_IsUtf8 bytes h.1)
tested bytes (Err e) Q h = sym (is_not_utf8 bytes h.0)
