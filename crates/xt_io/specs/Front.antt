-- Bytes at the front of an array, with zeros after them.
use Rattle.std.specs.Prelude.{ℕ, ◌≡◌, ◌-◌, ◌≤◌, List, ◌++◌, length, take, replicate}
use Rattle.std.proofs.Common.{sym, ◌∙◌, ap, arith, length-take-le}

-- an array of `size` bytes, of which `count` are used and the others are 0
pub record IsPadded (size count : ℕ) (bytes : List ℕ) : Type 0 where
  pub sized : length bytes ≡ size
  pub fits : count ≤ size
  pub padded : bytes ≡ take count bytes ++ replicate (size - count) 0

-- the used bytes tell the array and their number
pub padded_again : (size count : ℕ) (bytes : List ℕ) → IsPadded size count bytes
    → (take count bytes ++ replicate (size - length (take count bytes)) 0 ≡ bytes) × (length (take count bytes) ≡ count)
padded_again size count bytes padded =
    let same : length (take count bytes) ≡ count = length-take-le count bytes (omega (arith, padded.sized, padded.fits)) in
    (ap (λ n. take count bytes ++ replicate (size - n) 0) same ∙ sym padded.padded, same)
