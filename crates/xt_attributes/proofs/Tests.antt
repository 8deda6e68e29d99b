-- Tests of two parts.
use Rattle.std.proofs.Common.{◌≡◌, Bool, true, false, ◌&&◌, bytes_eq, codes, List, [], ℕ, Option, None, refl, sym, subst, if◌then◌else◌}

pub no_star : (b : Bool) (text : List ℕ) (o : Option (List ℕ)) → text ≡ [] → None ≡ (if b && bytes_eq text (codes "*") then o else None)
no_star b text o e = subst (λ (t : List ℕ). None ≡ (if b && bytes_eq t (codes "*") then o else None)) (sym e) (go b)
  where
    go : (b : Bool) → None ≡ (if b && false then o else None)
    go true = refl
    go false = refl
