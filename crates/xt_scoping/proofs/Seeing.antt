-- Names that are seen one list after another.
use Rattle.std.proofs.Common.{◌≡◌, ℕ, suc, ◌+◌, ◌<◌, List, [], ◌∷◌, ◌++◌, drop, length, get_or, refl, sym, ap, ◌∙◌, add-one}
use Rattle.std.proofs.Math.Seq.{drop-cons}
use Rattle.spec_document.specs.Name.{Expanded}
use Rattle.xt_scoping.specs.Distinct.{with_name, with_names}

pub with_names-append : (names xs ys : List Expanded) → with_names names (xs ++ ys) ≡ with_names (with_names names xs) ys
with_names-append names [] ys = refl
with_names-append names (x ∷ xs) ys = with_names-append (with_name names x) xs ys

pub first_left : {X : Type 0} (xs : List X) (i : ℕ) (x : X) → i < length xs → x ≡ get_or xs i x → drop i xs ≡ x ∷ drop (i + 1) xs
first_left xs i x h is = rw (add-one, drop-cons xs i x) (ap (λ y. y ∷ drop (suc i) xs) (sym is))

-- one turn of a loop over what is told by a list in front of what is told of the others
pub next_list : {X : Type 0} (F : List X → List Expanded) (f : X → List Expanded) → ((x : X) (xs : List X) → F (x ∷ xs) ≡ f x ++ F xs)
    → (xs : List X) (i : ℕ) (x : X) (seen after whole : List Expanded) → i < length xs → x ≡ get_or xs i x
    → with_names seen (F (drop i xs)) ≡ whole → after ≡ with_names seen (f x) → with_names after (F (drop (i + 1) xs)) ≡ whole
next_list F f parts xs i x seen after whole h is all e =
    ap (λ a. with_names a (F (drop (i + 1) xs))) e ∙ sym (with_names-append seen (f x) (F (drop (i + 1) xs)))
    ∙ ap (with_names seen) (sym (parts x (drop (i + 1) xs))) ∙ ap (λ ys. with_names seen (F ys)) (sym (first_left xs i x h is)) ∙ all
