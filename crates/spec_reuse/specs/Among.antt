-- Words on lists: what is in one, and some of one.
use Rattle.std.specs.Prelude.{◌≡◌, ◌⊎◌, List, [], ◌∷◌}

-- it is the first of the list, or it is behind it
abbrev pub IsIn : {A : Type 0} → A → List A → Type 0
IsIn x [] = ⊥
IsIn x (y ∷ ys) = (x ≡ y) ⊎ IsIn x ys

-- the one list is the other without some of it, in the same order
pub data AreSomeOf {A : Type 0} : List A → List A → Type 0 where
  no_more : AreSomeOf [] []
  taken : {x : A} {xs ys : List A} → AreSomeOf xs ys → AreSomeOf (x ∷ xs) (x ∷ ys)
  left_out : {y : A} {xs ys : List A} → AreSomeOf xs ys → AreSomeOf xs (y ∷ ys)
