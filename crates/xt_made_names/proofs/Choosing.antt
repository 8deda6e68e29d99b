-- What is chosen by a test.
use Rattle.std.proofs.Common.{◌≡◌, Bool, false, sym, ap}
use Rattle.std.specs.Prelude.{if◌then◌else◌}

-- the second of two
pub otherwise : {A : Type 0} (b : Bool) (p q : A) → b ≡ false → q ≡ (if b then p else q)
otherwise b p q e = ap (λ c. if c then p else q) (sym e)
