-- What is reached, by what was seen and what is new.
use Rattle.std.proofs.Common.{◌≡◌, ℕ, zero, suc, Bool, true, false, List, [], ◌∷◌, ◌++◌, refl, sym, ap, subst, ◌∙◌}
use Rattle.std.specs.Prelude.{◌||◌, if◌then◌else◌}
use Rattle.std.specs.List.{flat_map}
use Rattle.std.proofs.lemmas.Grind.{flat_map-append}
use Rattle.std.proofs.lemmas.List.Folds.{list_any-append}
use Rattle.spec_document.specs.Name.{Expanded, same_name}
use Rattle.spec_compile.specs.Scoping.{is_named}
use Rattle.xt_scoping.specs.Distinct.{with_name, with_names}
use Rattle.xt_scoping.specs.Laws.{same_is}
use Rattle.xt_scoping.specs.Reach.{IsWithin, reached_by}

either : (a b : Bool) (C : Type 0) → (a || b) ≡ true → (a ≡ true → C) → (b ≡ true → C) → C
either true b C e f g = f refl
either false b C e f g = g e

on_left : (a b : Bool) → a ≡ true → (a || b) ≡ true
on_left true b e = refl
on_left false b e = absurd (cc)

on_right : (a b : Bool) → b ≡ true → (a || b) ≡ true
on_right true b e = refl
on_right false b e = e

equal_tests : (a b : Bool) → (a ≡ true → b ≡ true) → (b ≡ true → a ≡ true) → a ≡ b
equal_tests true true f g = refl
equal_tests true false f g = sym (f refl)
equal_tests false true f g = g refl
equal_tests false false f g = refl

pub both_named : (xs ys : List Expanded) (n : Expanded) → is_named (xs ++ ys) n ≡ (is_named xs n || is_named ys n)
both_named xs ys n = list_any-append (same_name n) xs ys

pub in_left : (xs ys : List Expanded) → IsWithin xs (xs ++ ys)
in_left xs ys n e = both_named xs ys n ∙ on_left (is_named xs n) (is_named ys n) e

pub in_right : (xs ys : List Expanded) → IsWithin ys (xs ++ ys)
in_right xs ys n e = both_named xs ys n ∙ on_right (is_named xs n) (is_named ys n) e

pub both_within : (xs ys zs : List Expanded) → IsWithin xs zs → IsWithin ys zs → IsWithin (xs ++ ys) zs
both_within xs ys zs f g n e = either (is_named xs n) (is_named ys n) (is_named zs n ≡ true) (sym (both_named xs ys n) ∙ e) (f n) (g n)

pub along : (xs ys zs : List Expanded) → IsWithin xs ys → IsWithin ys zs → IsWithin xs zs
along xs ys zs f g n e = g n (f n e)

-- xs is within ys, before zs
on_within : (xs ys zs ws : List Expanded) → IsWithin xs zs → IsWithin ys ws → IsWithin (xs ++ ys) (zs ++ ws)
on_within xs ys zs ws f g =
    both_within xs ys (zs ++ ws) (λ n e. in_left zs ws n (f n e)) (λ n e. in_right zs ws n (g n e))

own_name : (n : Expanded) → same_name n n ≡ true
own_name n = (same_is n n).1 refl

at_one : (used : Expanded → List Expanded) (xs : List Expanded) (x n : Expanded) → is_named xs x ≡ true → is_named (used x) n ≡ true
    → is_named (flat_map used xs) n ≡ true
at_one used [] x n e h = absurd (cc)
at_one used (y ∷ ys) x n e h =
    either (same_name x y) (is_named ys x) (is_named (used y ++ flat_map used ys) n ≡ true) e
    (λ same. in_left (used y) (flat_map used ys) n (ap (λ z. is_named (used z) n) (sym ((same_is x y).0 same)) ∙ h))
    (λ later. in_right (used y) (flat_map used ys) n (at_one used ys x n later h))

pub used_within : (used : Expanded → List Expanded) (xs ys : List Expanded) → IsWithin xs ys → IsWithin (flat_map used xs) (flat_map used ys)
used_within used [] ys f = λ n e. absurd (cc)
used_within used (x ∷ xs) ys f =
    both_within (used x) (flat_map used xs) (flat_map used ys)
    (λ n e. at_one used ys x n (f x (on_left (same_name x x) (is_named xs x) (own_name x))) e)
    (used_within used xs ys (λ n e. f n (on_right (same_name n x) (is_named xs n) e)))

pub reached_within : (used : Expanded → List Expanded) (k : ℕ) (xs ys : List Expanded) → IsWithin xs ys → IsWithin (reached_by used k xs) (reached_by used k ys)
reached_within used zero xs ys f = f
reached_within used (suc k) xs ys f =
    on_within xs (reached_by used k (flat_map used xs)) ys (reached_by used k (flat_map used ys)) f
    (reached_within used k (flat_map used xs) (flat_map used ys) (used_within used xs ys f))

pub begins : (used : Expanded → List Expanded) (k : ℕ) (xs : List Expanded) → IsWithin xs (reached_by used k xs)
begins used zero xs = λ n e. e
begins used (suc k) xs = in_left xs (reached_by used k (flat_map used xs))

pub one_more : (used : Expanded → List Expanded) (k : ℕ) (xs : List Expanded) → IsWithin (reached_by used k xs) (reached_by used (suc k) xs)
one_more used zero xs = in_left xs (flat_map used xs)
one_more used (suc k) xs =
    on_within xs (reached_by used k (flat_map used xs)) xs (reached_by used (suc k) (flat_map used xs)) (λ n e. e)
    (one_more used k (flat_map used xs))

-- what is reached from two lists is reached from one of them
parted : (used : Expanded → List Expanded) (k : ℕ) (xs ys : List Expanded)
    → IsWithin (reached_by used k (xs ++ ys)) (reached_by used k xs ++ reached_by used k ys)
parted used zero xs ys = λ n e. e
parted used (suc k) xs ys =
    let rest : IsWithin (reached_by used k (flat_map used (xs ++ ys))) (reached_by used k (flat_map used xs) ++ reached_by used k (flat_map used ys))
    = λ n e. parted used k (flat_map used xs) (flat_map used ys) n (ap (λ zs. is_named (reached_by used k zs) n) (sym (flat_map-append used xs ys)) ∙ e) in
    let all = reached_by used (suc k) xs ++ reached_by used (suc k) ys in
    both_within (xs ++ ys) (reached_by used k (flat_map used (xs ++ ys))) all
    (on_within xs ys (reached_by used (suc k) xs) (reached_by used (suc k) ys) (begins used (suc k) xs) (begins used (suc k) ys))
    (along (reached_by used k (flat_map used (xs ++ ys))) (reached_by used k (flat_map used xs) ++ reached_by used k (flat_map used ys)) all rest
    (on_within (reached_by used k (flat_map used xs)) (reached_by used k (flat_map used ys)) (reached_by used (suc k) xs) (reached_by used (suc k) ys)
    (in_right xs (reached_by used k (flat_map used xs))) (in_right ys (reached_by used k (flat_map used ys)))))

pub or_false : (b : Bool) → (b || false) ≡ b
or_false true = refl
or_false false = refl

-- names with others more are both
pub with_name-named : (names : List Expanded) (x n : Expanded) → is_named (with_name names x) n ≡ (is_named names n || same_name n x)
with_name-named names x n = by (is_named names x) refl
  where
    by : (b : Bool) → is_named names x ≡ b → is_named (if b then names else names ++ x ∷ []) n ≡ (is_named names n || same_name n x)
    by true e = equal_tests (is_named names n) (is_named names n || same_name n x) (on_left (is_named names n) (same_name n x))
        (λ h. either (is_named names n) (same_name n x) (is_named names n ≡ true) h (λ t. t) (λ t. ap (is_named names) ((same_is n x).0 t) ∙ e))
    by false e = both_named names (x ∷ []) n ∙ ap (λ b. is_named names n || b) (or_false (same_name n x))

assoc_or : (a b c : Bool) → ((a || b) || c) ≡ (a || (b || c))
assoc_or true b c = refl
assoc_or false b c = refl

or_nothing : (a : Bool) → a ≡ (a || false)
or_nothing true = refl
or_nothing false = refl

pub with_names-named : (names xs : List Expanded) (n : Expanded) → is_named (with_names names xs) n ≡ (is_named names n || is_named xs n)
with_names-named names [] n = or_nothing (is_named names n)
with_names-named names (x ∷ xs) n =
    with_names-named (with_name names x) xs n ∙ ap (λ b. b || is_named xs n) (with_name-named names x n)
    ∙ assoc_or (is_named names n) (same_name n x) (is_named xs n)

-- ---- The search

-- what is reached from what was seen in these steps is what is reached from the start; what is used by what was seen was seen, or is used
-- by what is new, which was seen
pub record IsSearched (used : Expanded → List Expanded) (start : List Expanded) (rounds left : ℕ) (seen new : List Expanded) : Type 0 where
  pub same : (n : Expanded) → is_named (reached_by used left seen) n ≡ is_named (reached_by used rounds start) n
  pub closed : IsWithin (flat_map used seen) (seen ++ flat_map used new)
  pub among : IsWithin new seen

begun_with : (used : Expanded → List Expanded) (start : List Expanded) (rounds : ℕ) (seen new : List Expanded)
    → seen ≡ with_names [] start → seen ≡ [] ++ new → IsSearched used start rounds rounds seen new
begun_with used start rounds seen new is all = record {
  same = λ n. equal_tests (is_named (reached_by used rounds seen) n) (is_named (reached_by used rounds start) n)
      (reached_within used rounds seen start (λ m e. sym (named m) ∙ e) n) (reached_within used rounds start seen (λ m e. named m ∙ e) n);
  closed = λ n e. in_right seen (flat_map used new) n (ap (λ xs. is_named (flat_map used xs) n) (sym all) ∙ e);
  among = λ n e. ap (λ xs. is_named xs n) all ∙ e;
}
  where
    named : (n : Expanded) → is_named seen n ≡ is_named start n
    named n = ap (λ xs. is_named xs n) is ∙ with_names-named [] start n

pub begun : (used : Expanded → List Expanded) (start : List Expanded) (rounds left : ℕ) (seen new : List Expanded) → rounds ≡ left
    → seen ≡ with_names [] start → seen ≡ [] ++ new → IsSearched used start rounds left seen new
begun used start rounds left seen new e is all =
    subst (λ (k : ℕ). IsSearched used start rounds k seen new) e (begun_with used start rounds seen new is all)

module _ (used : Expanded → List Expanded) (seen new after newer : List Expanded) (closed : IsWithin (flat_map used seen) (seen ++ flat_map used new))
    (among : IsWithin new seen) (is : after ≡ with_names seen (flat_map used new)) where
  is_after : (n : Expanded) → is_named after n ≡ is_named (seen ++ flat_map used new) n
  is_after n = ap (λ xs. is_named xs n) is ∙ with_names-named seen (flat_map used new) n ∙ sym (both_named seen (flat_map used new) n)

  fewer : (k : ℕ) → IsWithin (reached_by used (suc k) seen) (reached_by used k after)
  fewer k =
      both_within seen (reached_by used k (flat_map used seen)) (reached_by used k after)
      (λ n e. begins used k after n (is_after n ∙ in_left seen (flat_map used new) n e))
      (reached_within used k (flat_map used seen) after (λ n e. is_after n ∙ closed n e))

  more : (k : ℕ) → IsWithin (reached_by used k after) (reached_by used (suc k) seen)
  more k n e =
      both_within (reached_by used k seen) (reached_by used k (flat_map used new)) (reached_by used (suc k) seen)
      (one_more used k seen)
      (λ m h. in_right seen (reached_by used k (flat_map used seen)) m
      (reached_within used k (flat_map used new) (flat_map used seen) (used_within used new seen among) m h))
      n (parted used k seen (flat_map used new) n (reached_within used k after (seen ++ flat_map used new) (λ m h. sym (is_after m) ∙ h) n e))

  closed_after : after ≡ seen ++ newer → IsWithin (flat_map used after) (after ++ flat_map used newer)
  closed_after grown n e =
      both_within (flat_map used seen) (flat_map used newer) (after ++ flat_map used newer)
      (λ m h. in_left after (flat_map used newer) m (is_after m ∙ closed m h))
      (in_right after (flat_map used newer)) n
      (ap (λ xs. is_named xs n) (sym (ap (flat_map used) grown ∙ flat_map-append used seen newer)) ∙ e)

pub searched : (used : Expanded → List Expanded) (start : List Expanded) (rounds left : ℕ) (seen new after newer : List Expanded)
    → IsSearched used start rounds (suc left) seen new → after ≡ with_names seen (flat_map used new) → after ≡ seen ++ newer
    → IsSearched used start rounds left after newer
searched used start rounds left seen new after newer s is grown = record {
  same = λ n. equal_tests (is_named (reached_by used left after) n) (is_named (reached_by used (suc left) seen) n)
      (more used seen new after newer s.closed s.among is left n) (fewer used seen new after newer s.closed s.among is left n) ∙ s.same n;
  closed = closed_after used seen new after newer s.closed s.among is grown;
  among = λ n e. ap (λ xs. is_named xs n) grown ∙ in_right seen newer n e;
}

pub next_round : (used : Expanded → List Expanded) (start : List Expanded) (rounds left more : ℕ) (seen new after newer : List Expanded)
    → left ≡ suc more → IsSearched used start rounds left seen new → after ≡ with_names seen (flat_map used new) → after ≡ seen ++ newer
    → IsSearched used start rounds more after newer
next_round used start rounds left more seen new after newer e s =
    searched used start rounds more seen new after newer (subst (λ (k : ℕ). IsSearched used start rounds k seen new) e s)

-- nothing is new
no_more : (used : Expanded → List Expanded) (k : ℕ) (seen : List Expanded) → IsWithin (flat_map used seen) seen → IsWithin (reached_by used k seen) seen
no_more used zero seen f = λ n e. e
no_more used (suc k) seen f =
    both_within seen (reached_by used k (flat_map used seen)) seen (λ n e. e)
    (λ n e. no_more used k seen f n (reached_within used k (flat_map used seen) seen f n e))

nothing_new : (seen : List Expanded) → IsWithin (seen ++ []) seen
nothing_new seen = both_within seen [] seen (λ n e. e) (λ n e. absurd (cc))

pub found_all : (used : Expanded → List Expanded) (start : List Expanded) (rounds left : ℕ) (seen new : List Expanded)
    → IsSearched used start rounds left seen new → new ≡ [] → (n : Expanded) → is_named seen n ≡ is_named (reached_by used rounds start) n
found_all used start rounds left seen new s none n =
    equal_tests (is_named seen n) (is_named (reached_by used left seen) n) (begins used left seen n)
    (no_more used left seen
    (λ m e. nothing_new seen m (ap (λ xs. is_named (seen ++ flat_map used xs) m) (sym none) ∙ s.closed m e)) n)
    ∙ s.same n
