-- That there is a list of what may be told to have been entered.
use Rattle.std.proofs.Common.{◌≡◌, ◌⊎◌, inl, inr, List, [], ◌∷◌, Bool, true, false, refl, sym, ap, subst, ◌∙◌}
use Rattle.spec_run.specs.Plan.{Target}
use Rattle.spec_run.specs.Trail.{Kept}
use Rattle.spec_run.specs.Meaning.{Setting}
use Rattle.spec_reuse.specs.Among.{IsIn, AreSomeOf, no_more, taken, left_out}
use Rattle.spec_reuse.specs.Instantiation.{Instantiation, instantiations}
use Rattle.spec_reuse.specs.Cost.{IsServed, Repeats, NoneRepeats, AreEntered}

-- ---- What cannot be wanting

then : {A B : Type 0} → ¬ (¬ A) → (A → ¬ (¬ B)) → ¬ (¬ B)
then a f = λ k. a (λ x. f x k)

either : (A : Type 0) → ¬ (¬ (A ⊎ (¬ A)))
either A = λ k. k (inr (λ a. k (inl a)))

-- ---- The instantiations of a list that no record serves, of one call that came to its end the last

-- one of this unit and node is among these
abbrev HasLike : {N : Type 0} → List (Instantiation N) → Instantiation N → Type 0
HasLike {N = N} list i = (j : Instantiation N) × IsIn j list × (j.call.target ≡ i.call.target) × (j.call.node ≡ i.call.node)

record Picked {N : Type 0} (s : Setting N) (records : List (Kept N)) (is : List (Instantiation N)) : Type 0 where
  list : List (Instantiation N)
  some : AreSomeOf list is
  unserved : (i : Instantiation N) → IsIn i list → ¬ (IsServed s records i)
  once : NoneRepeats s list
  covers : (i : Instantiation N) → IsIn i is → ¬ (IsServed s records i) → HasLike list i

picked_more : {N : Type 0} (s : Setting N) (records : List (Kept N)) (x : Instantiation N) (is : List (Instantiation N)) (p : Picked s records is)
    → IsServed s records x ⊎ (¬ (IsServed s records x))
    → ((j : Instantiation N) × IsIn j p.list × Repeats s x j) ⊎ (¬ ((j : Instantiation N) × IsIn j p.list × Repeats s x j))
    → Picked s records (x ∷ is)
picked_more {N = N} s records x is p (inl served) others = record {
  list = p.list;
  some = left_out p.some;
  unserved = p.unserved;
  once = p.once;
  covers = λ i h fresh. go i h fresh;
}
  where
    go : (i : Instantiation N) → IsIn i (x ∷ is) → ¬ (IsServed s records i) → HasLike p.list i
    go i (inl e) fresh = let P : Instantiation N → Type 0 = λ j. IsServed s records j in absurd (fresh (subst P (sym e) served))
    go i (inr h) fresh = p.covers i h fresh
picked_more {N = N} s records x is p (inr unserved) (inl r) = record {
  list = p.list;
  some = left_out p.some;
  unserved = p.unserved;
  once = p.once;
  covers = λ i h fresh. go i h fresh;
}
  where
    go : (i : Instantiation N) → IsIn i (x ∷ is) → ¬ (IsServed s records i) → HasLike p.list i
    go i (inl e) fresh =
        let target = ap (λ (j : Instantiation N). j.call.target) e in
        let node = ap (λ (j : Instantiation N). j.call.node) e in
        (r.0, r.1, sym r.2.target ∙ sym target, sym r.2.node ∙ sym node)
    go i (inr h) fresh = p.covers i h fresh
picked_more {N = N} s records x is p (inr unserved) (inr none) = record {
  list = x ∷ p.list;
  some = taken p.some;
  unserved = λ i h. fresh_one i h;
  once = (λ j h r. none (j, h, r), p.once);
  covers = λ i h fresh. go i h fresh;
}
  where
    fresh_one : (i : Instantiation N) → IsIn i (x ∷ p.list) → ¬ (IsServed s records i)
    fresh_one i (inl e) = let P : Instantiation N → Type 0 = λ j. ¬ (IsServed s records j) in subst P (sym e) unserved
    fresh_one i (inr h) = p.unserved i h

    go : (i : Instantiation N) → IsIn i (x ∷ is) → ¬ (IsServed s records i) → HasLike (x ∷ p.list) i
    go i (inl e) fresh =
        (x, inl refl, ap (λ (j : Instantiation N). j.call.target) (sym e), ap (λ (j : Instantiation N). j.call.node) (sym e))
    go i (inr h) fresh = let m = p.covers i h fresh in (m.0, inr m.1, m.2, m.3)

picked : {N : Type 0} (s : Setting N) (records : List (Kept N)) (is : List (Instantiation N)) → ¬ (¬ (Picked s records is))
picked s records [] = λ k. k (record { list = []; some = no_more; unserved = λ i h. absurd h; once = tt; covers = λ i h fresh. absurd h })
picked {N = N} s records (x ∷ is) =
    then (picked s records is) (λ p.
    then (either (IsServed s records x)) (λ served.
    then (either ((j : Instantiation N) × IsIn j p.list × Repeats s x j)) (λ others k. k (picked_more s records x is p served others))))

pub some_are_entered : {N : Type 0} (s : Setting N) (records : List (Kept N)) (is_made : Target N → N → Bool)
    → ((k : Kept N) → IsIn k records → is_made k.call.target k.call.node ≡ false)
    → ¬ (¬ ((list : List (Instantiation N)) × AreEntered s records (λ target node. is_made target node ≡ true) list))
some_are_entered {N = N} s records is_made old =
    then (picked s records (instantiations s)) (λ p k. k (
      p.list,
      record {
        of_run = p.some;
        unserved = p.unserved;
        once = p.once;
        made = λ i h new. p.covers i h (λ served. fresh i new served);
      },
    ))
  where
    fresh : (i : Instantiation N) → is_made i.call.target i.call.node ≡ true → IsServed s records i → ⊥
    fresh i new served =
        let of = served.2.fits.of_call in
        let had = old served.0 served.1 in
        let same : is_made served.0.call.target served.0.call.node ≡ is_made i.call.target i.call.node = λ l. is_made (of.target l) (of.node l) in
        let no : true ≡ false = sym new ∙ sym same ∙ had in
        absurd (cc)
