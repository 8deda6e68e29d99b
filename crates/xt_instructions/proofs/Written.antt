-- Names with and without a prefix.
use Rattle.std.proofs.Common.{◌≡◌, ℕ, List, [], ◌∷◌, ◌++◌, length, true, false, refl}
use Rattle.std.specs.Prelude.{◌==◌, codes}
use Rattle.std.proofs.lemmas.Bool.Decides.{nat_tests}
use Rattle.std.proofs.Common.{arith}
use Rattle.spec_result.specs.Shape.{with_prefix}

pub without_prefix : (prefix local : List ℕ) → (length prefix == 0) ≡ true → with_prefix prefix local ≡ local
without_prefix [] local h = refl
without_prefix (c ∷ cs) local h = absurd (grind (arith, nat_tests))

pub prefixed : (prefix local : List ℕ) → (length prefix == 0) ≡ false → with_prefix prefix local ≡ prefix ++ codes ":" ++ local
prefixed [] local h = absurd (cc)
prefixed (c ∷ cs) local h = refl
