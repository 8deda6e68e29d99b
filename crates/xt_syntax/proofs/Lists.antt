-- Lists whose elements stand for the same, element by element; and lists inside trees.
use Rattle.std.proofs.Common.{◌≡◌, ℕ, ◌<◌, ◌≤◌, ◌+◌, List, [], ◌∷◌, ◌++◌, length, get_or, take, map, Bool, true, false, refl}
use Rattle.std.proofs.Common.{ap, sym, ◌∙◌, arith}
use Rattle.std.specs.Bool.{Decides}
use Rattle.std.proofs.lemmas.Bool.{false≢true}
use Rattle.std.proofs.lemmas.List.{take_more, get_or-map, map-append, length-map, take_all}
use Rattle.spec_document.specs.declared.axis.Axis.{Axis}
use Rattle.spec_expression.specs.declared.Operator.{Operator}
use Rattle.spec_expression.specs.Syntax.{Test, Expr, Exprs, Link, Step, exprs, links, steps}

pub same_exprs : (xs ys : List Expr) → exprs xs ≡ exprs ys → xs ≡ ys
same_exprs [] [] h = refl
same_exprs [] (y ∷ ys) h = cc
same_exprs (x ∷ xs) [] h = cc
same_exprs (x ∷ xs) (y ∷ ys) h = let t : exprs xs ≡ exprs ys = cc in let r = same_exprs xs ys t in cc

same_link : (x y : Link) → x.operator ≡ y.operator → x.operand ≡ y.operand → x ≡ y
same_link x y o e =
    let by_operator : Operator → Link = λ a. record { operator = a; operand = x.operand } in
    let by_operand : Expr → Link = λ a. record { operator = y.operator; operand = a } in
    ap by_operator o ∙ ap by_operand e

same_step : (x y : Step) → x.axis ≡ y.axis → x.test ≡ y.test → x.predicates ≡ y.predicates → x ≡ y
same_step x y a t e =
    let by_axis : Axis → Step = λ b. record { axis = b; test = x.test; predicates = x.predicates } in
    let by_test : Test → Step = λ b. record { axis = y.axis; test = b; predicates = x.predicates } in
    let by_predicates : Exprs → Step = λ b. record { axis = y.axis; test = y.test; predicates = b } in
    ap by_axis a ∙ ap by_test t ∙ ap by_predicates e

pub same_links : (xs ys : List Link) → links xs ≡ links ys → xs ≡ ys
same_links [] [] h = refl
same_links [] (y ∷ ys) h = cc
same_links (x ∷ xs) [] h = cc
same_links (x ∷ xs) (y ∷ ys) h = let t : links xs ≡ links ys = cc in let r = same_links xs ys t in let o : x.operator ≡ y.operator = cc in
    let e : x.operand ≡ y.operand = cc in let p = same_link x y o e in cc

pub same_steps : (xs ys : List Step) → steps xs ≡ steps ys → xs ≡ ys
same_steps [] [] h = refl
same_steps [] (y ∷ ys) h = cc
same_steps (x ∷ xs) [] h = cc
same_steps (x ∷ xs) (y ∷ ys) h = let t : steps xs ≡ steps ys = cc in let r = same_steps xs ys t in let a : x.axis ≡ y.axis = cc in
    let b : x.test ≡ y.test = cc in let e : x.predicates ≡ y.predicates = cc in let p = same_step x y a b e in cc

pub different_length : {A B C : Type 0} (f : A → B) (w : List B → C) → ((us vs : List B) → w us ≡ w vs → us ≡ vs) → (xs ys : List A)
    → (length xs ≡ length ys → ⊥) → Decides false (w (map f xs) ≡ w (map f ys))
different_length f w inj xs ys h = (λ e. absurd (false≢true e), λ e. absurd (h (omega (arith, ap length (inj _ _ e), length-map xs f, length-map ys f))))

pub different_at : {A B C : Type 0} (f : A → B) (w : List B → C) → ((us vs : List B) → w us ≡ w vs → us ≡ vs)
    → (xs ys : List A) (i : ℕ) (x y : A) → i < length xs → i < length ys
    → x ≡ get_or xs i x → y ≡ get_or ys i y → (b : Bool) → b ≡ false → (f x ≡ f y → b ≡ true)
    → Decides false (w (map f xs) ≡ w (map f ys))
different_at f w inj xs ys i x y p q g h b n k = (
  λ e. absurd (false≢true e),
  λ e. absurd (false≢true
      (sym n ∙ k (ap f g ∙ sym (get_or-map f xs i x (f x) p) ∙ ap (λ l. get_or l i (f x)) (inj _ _ e) ∙ get_or-map f ys i y (f x) q ∙ sym (ap f h)))),
)

pub all_same : {A B C : Type 0} (f : A → B) (w : List B → C) (xs ys : List A) (i : ℕ) → length xs ≤ i → length ys ≤ i
    → map f (take i xs) ≡ map f (take i ys) → Decides true (w (map f xs) ≡ w (map f ys))
all_same f w xs ys i p q h = (λ _. ap w (ap (map f) (sym (take_all i xs p)) ∙ h ∙ ap (map f) (take_all i ys q)), λ _. refl)

pub more_same : {A B : Type 0} (f : A → B) (xs ys : List A) (i : ℕ) (d e : A) → i < length xs → i < length ys
    → map f (take i xs) ≡ map f (take i ys) → f (get_or xs i d) ≡ f (get_or ys i e)
    → map f (take (i + 1) xs) ≡ map f (take (i + 1) ys)
more_same f xs ys i d e p q h k =
    let a = take_more xs i d p in
    let b = take_more ys i e q in
    let c = map-append f (take i xs) (get_or xs i d ∷ []) in
    let g = map-append f (take i ys) (get_or ys i e ∷ []) in
    ap (map f) a ∙ c ∙ ap (λ l. l ++ f (get_or xs i d) ∷ []) h ∙ ap (λ x. map f (take i ys) ++ x ∷ []) k ∙ sym g ∙ ap (map f) (sym b)
