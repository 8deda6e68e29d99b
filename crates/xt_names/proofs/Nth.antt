-- What stands at a number in lists one behind the other.
use Rattle.std.proofs.Common.{◌≡◌, ℕ, suc, ◌-◌, ◌==◌, true, false, cond, List, [], ◌∷◌, ◌++◌, length, Option, Some, None}
use Rattle.std.proofs.Common.{refl, sym, ap, subst, ◌∙◌, arith, length-append, append_assoc}
use Rattle.std.specs.List.{filter}
use Rattle.spec_document.specs.Declaration.{is_there}
use Rattle.spec_document.specs.Place.{at_number}
use Rattle.xt_names.specs.Nth.{IsNth}
use Rattle.xt_names.specs.View.{Entry}

nothing_first : {A : Type 0} (x : A) → Some x ≡ None → ⊥
nothing_first x e = cc

at_zero : {A : Type 0} (xs : List A) → at_number 0 xs ≡ None
at_zero [] = refl
at_zero (x ∷ xs) = at_zero xs

-- what stands in the first stands in both
at_first : {A : Type 0} (number : ℕ) (xs ys : List A) (x : A) → at_number number xs ≡ Some x → at_number number (xs ++ ys) ≡ Some x
at_first number [] ys x e = absurd (nothing_first x (sym e))
at_first number (y ∷ xs) ys x e =
    elim (number == 1) as (λ b. cond b (Some y) (at_number (number - 1) xs) ≡ Some x → cond b (Some y) (at_number (number - 1) (xs ++ ys)) ≡ Some x) [
      | true ↦ λ e. e
      | false ↦ λ e. at_first (number - 1) xs ys x e
    ] e

-- and what does not stands in the second, so many further on
at_behind : {A : Type 0} (number : ℕ) (xs ys : List A) → at_number number xs ≡ None → at_number number (xs ++ ys) ≡ at_number (number - length xs) ys
at_behind number [] ys e = let is : number ≡ number - 0 = omega arith in ap (λ n. at_number n ys) is
at_behind number (y ∷ xs) ys e =
    elim (number == 1) as (λ b. cond b (Some y) (at_number (number - 1) xs) ≡ None
    → cond b (Some y) (at_number (number - 1) (xs ++ ys)) ≡ at_number (number - suc (length xs)) ys) [
      | true ↦ λ e. absurd (nothing_first y e)
      | false ↦ λ e.
          let is : number - 1 - length xs ≡ number - suc (length xs) = omega arith in
          at_behind (number - 1) xs ys e ∙ ap (λ n. at_number n ys) is
    ] e

nth_behind : (number left later : ℕ) (xs ys : List Entry) (o : Option Entry) → IsNth number left xs None → IsNth left later ys o
    → IsNth number later (xs ++ ys) o
nth_behind number left later xs ys None h k =
    let on : at_number number (xs ++ ys) ≡ at_number left ys = at_behind number xs ys h.0 ∙ ap (λ n. at_number n ys) (sym h.1) in
    (on ∙ k.0, omega (arith, h.1, k.1, length-append xs ys))
nth_behind number left later xs ys (Some x) h k = at_behind number xs ys h.0 ∙ ap (λ n. at_number n ys) (sym h.1) ∙ k

-- ---- Those that have a URI

abbrev listed : List Entry → List Entry
listed es = filter (λ n. is_there n.1) es

listed_first : (e : Entry) (es : List Entry) → listed (e ∷ es) ≡ listed (e ∷ []) ++ listed es
listed_first e es =
    elim (is_there e.1) as (λ b. cond b (e ∷ listed es) (listed es) ≡ cond b (e ∷ []) [] ++ listed es) [
      | true ↦ refl
      | false ↦ refl
    ]

listed_append : (xs ys : List Entry) → listed (xs ++ ys) ≡ listed xs ++ listed ys
listed_append [] ys = refl
listed_append (x ∷ xs) ys =
    listed_first x (xs ++ ys) ∙ ap (λ es. listed (x ∷ []) ++ es) (listed_append xs ys)
    ∙ sym (append_assoc (listed (x ∷ [])) (listed xs) (listed ys)) ∙ ap (λ es. es ++ listed ys) (sym (listed_first x xs))

-- those before a declaration, its own, and those after it
listed_parts : (before : List Entry) (e : Entry) (after : List Entry)
    → listed (before ++ e ∷ after) ≡ listed before ++ (listed (e ∷ []) ++ listed after)
listed_parts before e after =
    listed_append before (e ∷ after) ∙ ap (λ es. listed before ++ es) (listed_first e after)

listed_all : (all before : List Entry) (e : Entry) (after : List Entry) → all ≡ before ++ e ∷ after
    → listed all ≡ listed before ++ (listed (e ∷ []) ++ listed after)
listed_all all before e after is = ap listed is ∙ listed_parts before e after

-- ---- Where it stands

pub stands_before : (number : ℕ) (all before : List Entry) (e : Entry) (after : List Entry) (x : Entry) → all ≡ before ++ e ∷ after
    → at_number number (listed before) ≡ Some x → at_number number (listed all) ≡ Some x
stands_before number all before e after x is h =
    ap (at_number number) (listed_all all before e after is) ∙ at_first number (listed before) (listed (e ∷ []) ++ listed after) x h

pub is_own : (number left : ℕ) (all before : List Entry) (e : Entry) (after : List Entry) (x : Entry) → all ≡ before ++ e ∷ after
    → IsNth number left (listed before) None → at_number left (listed (e ∷ [])) ≡ Some x → at_number number (listed all) ≡ Some x
is_own number left all before e after x is h k =
    ap (at_number number) (listed_all all before e after is)
    ∙ nth_behind number left left (listed before) (listed (e ∷ []) ++ listed after) (Some x) h (at_first left (listed (e ∷ [])) (listed after) x k)

pub stands_after : (number left own later : ℕ) (all before : List Entry) (e : Entry) (after : List Entry) (o : Option Entry) → all ≡ before ++ e ∷ after
    → IsNth number left (listed before) None → IsNth left own (listed (e ∷ [])) None → IsNth own later (listed after) o
    → IsNth number later (listed all) o
stands_after number left own later all before e after o is h k l =
    let P : List Entry → Type 0 = λ es. IsNth number later es o in
    subst P (sym (listed_all all before e after is))
    (nth_behind number left later (listed before) (listed (e ∷ []) ++ listed after) o h
    (nth_behind left own later (listed (e ∷ [])) (listed after) o k l))

-- whatever is left
pub stands_at : (number left : ℕ) (es : List Entry) (o : Option Entry) → IsNth number left es o → o ≡ at_number number es
stands_at number left es None h = sym h.0
stands_at number left es (Some x) h = sym h
