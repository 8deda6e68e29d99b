-- Attributes by their numbers, past the declarations.
use Rattle.std.proofs.Common.{◌≡◌, ◌≢◌, ◌<◌, ◌≤◌, ◌+◌, ◌-◌, ◌==◌, ℕ, suc, true, false, cond, not, List, [], ◌∷◌, Some, None, refl, sym, ap, ◌∙◌}
use Rattle.std.proofs.Common.{arith, eq-eqb}
use Rattle.std.specs.Prelude.{nat_lt}
use Rattle.std.specs.List.{filter, slice_get}
use Rattle.std.proofs.lemmas.Bool.{eqb-true, lt-ltb, le-ltb}
use Rattle.spec_document.specs.Forest.{Written}
use Rattle.spec_document.specs.Declaration.{is_declaration}
use Rattle.spec_document.specs.Place.{at_number}
use Rattle.xt_tree.specs.Indexed.{declarations_in, skipped}
use Rattle.xt_tree.proofs.Bools.{apart}
use Rattle.xt_tree.proofs.Views.{true_false}

abbrev pub kept : List Written → List Written
kept attributes = filter (λ a. not (is_declaration a)) attributes

abbrev pub passed : ℕ → ℕ → ℕ
passed declaration place = cond (nat_lt place declaration) place (place + 1)

pub before : (d p : ℕ) → p < d → passed d p ≡ p
before d p h = ap (λ b. cond b p (p + 1)) (lt-ltb p d h)

pub behind : (d p : ℕ) → d ≤ p → passed d p ≡ p + 1
behind d p h = ap (λ b. cond b p (p + 1)) (le-ltb p d h)

no_less : (d p : ℕ) → p ≤ passed d p
no_less d p = elim (nat_lt p d) as (λ b. p ≤ cond b p (p + 1)) [ true ↦ omega arith | false ↦ omega arith ]

-- a place only grows
pub skipped_on : (ds : List ℕ) (p : ℕ) → p ≤ skipped ds p
skipped_on [] p = omega arith
skipped_on (d ∷ ds) p =
    let one : p ≤ passed d p = no_less d p in
    let rest : passed d p ≤ skipped ds (passed d p) = skipped_on ds (passed d p) in
    omega (arith, one, rest)

none_skipped : (k p : ℕ) (xs : List Written) → p < k → skipped (declarations_in k xs) p ≡ p
none_skipped k p [] h = refl
none_skipped k p (a ∷ xs) h =
    elim (is_declaration a) as (λ b. skipped (cond b (k ∷ declarations_in (k + 1) xs) (declarations_in (k + 1) xs)) p ≡ p) [
      | true ↦ ap (skipped (declarations_in (k + 1) xs)) (before k p h) ∙ none_skipped (k + 1) p xs (omega (arith, h))
      | false ↦ none_skipped (k + 1) p xs (omega (arith, h))
    ]

-- the attribute itself, or one behind it
own_or_later : (k p : ℕ) (a : Written) (xs : List Written) → k ≤ p
    → (k + 1 ≤ p → slice_get xs (skipped (declarations_in (k + 1) xs) p - (k + 1)) ≡ at_number (p - (k + 1) + 1) (kept xs))
    → slice_get (a ∷ xs) (skipped (declarations_in (k + 1) xs) p - k) ≡ at_number (p - k + 1) (a ∷ kept xs)
own_or_later k p a xs h later =
    let ds = declarations_in (k + 1) xs in
    elim (p == k) as (λ b. (p == k) ≡ b → slice_get (a ∷ xs) (skipped ds p - k) ≡ at_number (p - k + 1) (a ∷ kept xs)) [
      | true ↦ λ e.
          let is : p ≡ k = eqb-true p k e in
          let none : skipped ds p ≡ p = none_skipped (k + 1) p xs (omega (arith, is)) in
          let here : skipped ds p - k ≡ 0 = omega (arith, none, is) in
          let one : 1 ≡ p - k + 1 = omega (arith, is) in
          ap (slice_get (a ∷ xs)) here ∙ ap (λ n. at_number n (a ∷ kept xs)) one
      | false ↦ λ e.
          let other : p ≢ k = λ is. true_false (sym (eq-eqb p k is) ∙ e) in
          let more : k + 1 ≤ p = omega (arith, other, h) in
          let on = skipped_on ds p in
          let past : skipped ds p - k ≡ suc (skipped ds p - (k + 1)) = omega (arith, on, more) in
          let less : p - (k + 1) + 1 ≡ p - k + 1 - 1 = omega (arith, more) in
          let not_one : p - k + 1 ≢ 1 = λ is. omega (arith, is, more) in
          ap (slice_get (a ∷ xs)) past ∙ later more ∙ ap (λ n. at_number n (kept xs)) less
          ∙ sym (ap (λ b. cond b (Some a) (at_number (p - k + 1 - 1) (kept xs))) (apart (p - k + 1) 1 not_one))
    ] refl

-- what has a number among the attributes that are no declarations stands at the place past the declarations
found : (k p : ℕ) (xs : List Written) → k ≤ p → slice_get xs (skipped (declarations_in k xs) p - k) ≡ at_number (p - k + 1) (kept xs)
found k p [] h = refl
found k p (a ∷ xs) h =
    let ds = declarations_in (k + 1) xs in
    elim (is_declaration a) as (λ b. slice_get (a ∷ xs) (skipped (cond b (k ∷ ds) ds) p - k)
    ≡ at_number (p - k + 1) (cond (not b) (a ∷ kept xs) (kept xs))) [
      | true ↦
          let on = skipped_on ds (p + 1) in
          let past : skipped ds (p + 1) - k ≡ suc (skipped ds (p + 1) - (k + 1)) = omega (arith, on, h) in
          let same : p + 1 - (k + 1) + 1 ≡ p - k + 1 = omega (arith, h) in
          ap (λ m. slice_get (a ∷ xs) (skipped ds m - k)) (behind k p h) ∙ ap (slice_get (a ∷ xs)) past
          ∙ found (k + 1) (p + 1) xs (omega (arith, h)) ∙ ap (λ n. at_number n (kept xs)) same
      | false ↦ own_or_later k p a xs h (λ more. found (k + 1) p xs more)
    ]

pub nth_found : (number : ℕ) (xs : List Written) → number ≢ 0
    → slice_get xs (skipped (declarations_in 0 xs) (number - 1)) ≡ at_number number (kept xs)
nth_found number xs h =
    let place : skipped (declarations_in 0 xs) (number - 1) ≡ skipped (declarations_in 0 xs) (number - 1) - 0 = omega arith in
    let same : number - 1 - 0 + 1 ≡ number = omega (arith, h) in
    ap (slice_get xs) place ∙ found 0 (number - 1) xs (omega arith) ∙ ap (λ n. at_number n (kept xs)) same

pub none_at_zero : (xs : List Written) → None ≡ at_number 0 xs
none_at_zero [] = refl
none_at_zero (a ∷ xs) = none_at_zero xs
