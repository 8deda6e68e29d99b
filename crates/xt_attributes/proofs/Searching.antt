-- Whether one of some items has a part that is looked for.
use Rattle.std.proofs.Common.{◌≡◌, ℕ, ◌+◌, ◌<◌, Bool, true, false, ◌||◌, List, ◌∷◌, length, drop, get_or, sym, ap, ◌∙◌}
use Rattle.std.proofs.lemmas.List.{at_drop_more}

-- what is left from an item on, by whether it has one
left_from : {E : Type 0} (any : List E → Bool) (own : E → Bool) (items : List E) (i : ℕ) (item : E) → ((left : List E) → any (item ∷ left) ≡ (own item || any left))
    → i < length items → item ≡ get_or items i item → any (drop i items) ≡ (own item || any (drop (i + 1) items))
left_from any own items i item step l is =
    at_drop_more any items i item l ∙ ap (λ x. any (x ∷ drop (i + 1) items)) (sym is) ∙ step (drop (i + 1) items)

-- this item has none
pub next_sought : {E : Type 0} (any : List E → Bool) (own : E → Bool) (items : List E) (i : ℕ) (item : E) {all : Bool}
    → ((left : List E) → any (item ∷ left) ≡ (own item || any left)) → i < length items → item ≡ get_or items i item → own item ≡ false
    → any (drop i items) ≡ all → any (drop (i + 1) items) ≡ all
next_sought any own items i item step l is none inv =
    sym (left_from any own items i item step l is ∙ ap (λ b. b || any (drop (i + 1) items)) none) ∙ inv

-- this item has one
pub found_sought : {E : Type 0} (any : List E → Bool) (own : E → Bool) (items : List E) (i : ℕ) (item : E) {all : Bool}
    → ((left : List E) → any (item ∷ left) ≡ (own item || any left)) → i < length items → item ≡ get_or items i item → own item ≡ true
    → any (drop i items) ≡ all → true ≡ all
found_sought any own items i item step l is some inv =
    sym (left_from any own items i item step l is ∙ ap (λ b. b || any (drop (i + 1) items)) some) ∙ inv
