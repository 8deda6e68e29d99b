-- Loops over lists that end at the first item that decides.
use Rattle.std.proofs.Common.{◌≡◌, ℕ, ◌+◌, ◌<◌, Bool, true, false, ◌||◌, ◌&&◌, List, ◌∷◌, length, drop, get_or, sym, ap, ◌∙◌}
use Rattle.std.proofs.lemmas.List.{at_drop_more}

pub first_left : {E : Type 0} (items : List E) (i : ℕ) (item : E) → i < length items → item ≡ get_or items i item → item ∷ drop (i + 1) items ≡ drop i items
first_left items i item l is = ap (λ x. x ∷ drop (i + 1) items) is ∙ sym (at_drop_more (λ (es : List _). es) items i item l)

-- whether it holds of one
pub any_stop : {E : Type 0} (holds : List E → Bool) (own : E → Bool) (items : List E) (i : ℕ) (item : E)
    → ((left : List E) → holds (item ∷ left) ≡ (own item || holds left)) → i < length items → item ≡ get_or items i item → own item ≡ true
    → holds (drop i items) ≡ holds items → true ≡ holds items
any_stop holds own items i item step l is holding inv =
    ap (λ b. b || holds (drop (i + 1) items)) (sym holding) ∙ sym (step (drop (i + 1) items)) ∙ ap holds (first_left items i item l is) ∙ inv

pub any_next : {E : Type 0} (holds : List E → Bool) (own : E → Bool) (items : List E) (i : ℕ) (item : E)
    → ((left : List E) → holds (item ∷ left) ≡ (own item || holds left)) → i < length items → item ≡ get_or items i item → own item ≡ false
    → holds (drop i items) ≡ holds items → holds (drop (i + 1) items) ≡ holds items
any_next holds own items i item step l is failing inv =
    ap (λ b. b || holds (drop (i + 1) items)) (sym failing) ∙ sym (step (drop (i + 1) items)) ∙ ap holds (first_left items i item l is) ∙ inv

-- whether it holds of all
pub all_stop : {E : Type 0} (holds : List E → Bool) (own : E → Bool) (items : List E) (i : ℕ) (item : E)
    → ((left : List E) → holds (item ∷ left) ≡ (own item && holds left)) → i < length items → item ≡ get_or items i item → own item ≡ false
    → holds (drop i items) ≡ holds items → false ≡ holds items
all_stop holds own items i item step l is failing inv =
    ap (λ b. b && holds (drop (i + 1) items)) (sym failing) ∙ sym (step (drop (i + 1) items)) ∙ ap holds (first_left items i item l is) ∙ inv

pub all_next : {E : Type 0} (holds : List E → Bool) (own : E → Bool) (items : List E) (i : ℕ) (item : E)
    → ((left : List E) → holds (item ∷ left) ≡ (own item && holds left)) → i < length items → item ≡ get_or items i item → own item ≡ true
    → holds (drop i items) ≡ holds items → holds (drop (i + 1) items) ≡ holds items
all_next holds own items i item step l is holding inv =
    ap (λ b. b && holds (drop (i + 1) items)) (sym holding) ∙ sym (step (drop (i + 1) items)) ∙ ap holds (first_left items i item l is) ∙ inv
