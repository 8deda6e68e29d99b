-- Lists in pieces.
--     flat         the items of pieces, one after another
--     starts_from  the turn of the first item of each
--     IsPieced     these are the turns, and so many items there are
use Rattle.std.specs.Prelude.{◌≡◌, ℕ, ◌+◌, ◌≤◌, ◌^◌, List, [], ◌∷◌, ◌++◌, length}
use Rattle.xt_record.specs.declared.entry.Entry.{Entry}

abbrev pub flat : {A : Type 0} → List (List A) → List A
flat [] = []
flat (p ∷ ps) = p ++ flat ps

abbrev pub starts_from : {A : Type 0} → ℕ → List (List A) → List ℕ
starts_from n [] = []
starts_from n (p ∷ ps) = n ∷ starts_from (n + length p) ps

pub record IsPieced (ps : List (List Entry)) (turns : List ℕ) (count : ℕ) : Type 0 where
  pub starts : turns ≡ starts_from 0 ps
  pub counted : count ≡ length (flat ps)
  pub fits : count ≤ 2 ^ 62
