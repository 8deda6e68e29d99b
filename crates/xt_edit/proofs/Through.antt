-- Ways that begin with others, and ways once a node was taken away.
use Rattle.std.proofs.Common.{◌≡◌, ℕ, ◌==◌, Bool, true, false, List, [], ◌∷◌, take, length, refl, sym, ◌∙◌, eq-eqb, eqb-true}
use Rattle.std.specs.Prelude.{◌&&◌, nat_eq}
use Rattle.std.specs.Cmp.Lexicographic.{pointwise}
use Rattle.spec_move.specs.Move.{goes_through, path_below}

either-way : (m n : ℕ) → nat_eq m n ≡ (n == m)
either-way m n = by (nat_eq m n) refl (n == m) refl
  where
    by : (a : Bool) → nat_eq m n ≡ a → (b : Bool) → (n == m) ≡ b → a ≡ b
    by true e true f = refl
    by true e false f = absurd (let is = sym (eq-eqb n m (sym (eqb-true m n e))) ∙ f in cc)
    by false e true f = absurd (let is = sym (eq-eqb m n (sym (eqb-true n m f))) ∙ e in cc)
    by false e false f = refl

pub starts-through : (way other : List ℕ) → pointwise nat_eq other (take (length other) way) ≡ goes_through way other
starts-through [] [] = refl
starts-through (here ∷ way) [] = refl
starts-through [] (p ∷ other) = refl
starts-through (here ∷ way) (p ∷ other) = λ i. either-way p here i && starts-through way other i

pub below-none : (above : List ℕ) (gone fewer : ℕ) (path : List ℕ) → path ≡ [] → path_below above gone fewer path ≡ []
below-none above gone fewer (p ∷ path) e = absurd (cc)
below-none [] gone fewer [] e = refl
below-none (here ∷ above) gone fewer [] e = refl
