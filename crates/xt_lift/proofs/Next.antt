-- What is added to a list for each item of another, one after another.
use Rattle.std.proofs.Common.{◌≡◌, ℕ, ◌+◌, ◌<◌, List, ◌∷◌, ◌++◌, length, drop, get_or, sym, ap, ◌∙◌, append_assoc}
use Rattle.std.proofs.lemmas.List.{at_drop_more}

-- one more item: what it adds stands behind what was added before
pub next_added : {E X : Type 0} (adds : List E → List X) (own : E → List X) (items : List E) (i : ℕ) (item : E) (before now : List X) {all : List X}
    → ((left : List E) → adds (item ∷ left) ≡ own item ++ adds left) → i < length items → item ≡ get_or items i item → now ≡ before ++ own item
    → before ++ adds (drop i items) ≡ all → now ++ adds (drop (i + 1) items) ≡ all
next_added adds own items i item before now {all = all} step l is e inv =
    let left = drop (i + 1) items in
    ap (λ xs. xs ++ adds left) e ∙ append_assoc before (own item) (adds left)
    ∙ ap (λ xs. before ++ xs) (sym (step left))
    ∙ ap (λ x. before ++ adds (x ∷ left)) is
    ∙ ap (λ xs. before ++ adds xs) (sym (at_drop_more (λ (es : List _). es) items i item l))
    ∙ inv
