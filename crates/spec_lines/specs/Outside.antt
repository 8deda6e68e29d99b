-- What a source of bytes and a sink tell.
use Rattle.std.specs.Prelude.{ℕ, ◌≡◌, ◌<◌, ◌≤◌, ◌⊎◌, List, ◌++◌, length, take, drop, Option, None, MatchOption, Result, IfSome, IsSomeAnd, IsErr, IsOk}

-- a count of faults has risen, or stands at its greatest value as before; so it never falls
abbrev pub HasRisen : ℕ → ℕ → Type 0
HasRisen before now = (before < now) ⊎ ((before ≡ 18446744073709551615) × (now ≡ 18446744073709551615))

-- a fault is told only where the count of faults has risen, and any other answer leaves the count as it was
pub record HasCause {T E : Type 0} (before now : ℕ) (result : Result T E) : Type 0 where
  pub failed : IsErr result → HasRisen before now
  pub fine : IsOk result → now ≡ before

-- `count` bytes were taken from what was left, and stand at the front of `piece`; where nothing is told of what was
-- left, nothing is told after it
abbrev pub Takes : Option (List ℕ) → ℕ → List ℕ → Option (List ℕ) → Type 0
Takes old count piece new = MatchOption old (new ≡ None) (λ left. (count ≤ length left) × (take count piece ≡ take count left) × IsSomeAnd new (λ rest. rest ≡ drop count left))

-- none was taken, since none is left
abbrev pub IsAtEnd : Option (List ℕ) → Type 0
IsAtEnd left = IfSome left (λ bytes. length bytes ≡ 0)

-- what was written is what was written before and then this, where it is told
abbrev pub Appends : Option (List ℕ) → Option (List ℕ) → List ℕ → Type 0
Appends old new piece = IfSome new (λ after. IsSomeAnd old (λ before. after ≡ before ++ piece))
