-- What is left of a list at a turn of a loop over it.
use Rattle.std.proofs.Common.{◌≡◌, ℕ, ◌+◌, ◌<◌, List, ◌∷◌, length, get_or, drop, sym, ap, ◌∙◌}
use Rattle.std.proofs.lemmas.List.{drop_more}

pub rest_more : {X : Type 0} → (xs : List X) (n : ℕ) (x : X) → (n < length xs) × (x ≡ get_or xs n x) → drop n xs ≡ x ∷ drop (n + 1) xs
rest_more xs n x turn = drop_more xs n x turn.0 ∙ ap (λ y. y ∷ drop (n + 1) xs) (sym turn.1)
