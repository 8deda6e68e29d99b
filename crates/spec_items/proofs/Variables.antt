-- The variables that are passed to the template of a content are the free ones, with their values.
use Rattle.std.proofs.Common.{◌≡◌, ℕ, List, [], ◌∷◌, Bool, true, false, cond, Option, None, Some, refl, sym, ap, subst, ◌∙◌}
use Rattle.std.specs.Prelude.{◌&&◌, ◌||◌, bytes_eq, is_some}
use Rattle.std.specs.List.{filter, list_any}
use Rattle.std.proofs.lemmas.Slice.Eq.{bytes_eq-Decides}
use Rattle.std.proofs.lemmas.Map.Views.{any-filter_same}
use Rattle.spec_document.specs.Name.{Expanded, same_name}
use Rattle.spec_stylesheet.specs.Instruction.{Instrs}
use Rattle.spec_meaning.specs.Value.{Value}
use Rattle.spec_meaning.specs.Context.{Bound, binding_of}
use Rattle.spec_items.specs.Mentioned.{mentioned_in, free_in}
use Rattle.spec_items.proofs.Follow.{Agree}

-- ---- names
pub bytes_itself : (a : List ℕ) → bytes_eq a a ≡ true
bytes_itself a = (bytes_eq-Decides a a).1 refl

pub name_itself : (a : Expanded) → same_name a a ≡ true
name_itself a = λ i. bytes_itself a.uri i && bytes_itself a.local i

pub both_true : (x y : Bool) → (x && y) ≡ true → (x ≡ true) × (y ≡ true)
both_true true true h = (refl, refl)
both_true true false h = absurd (cc)
both_true false y h = absurd (cc)

pub name_is : (a b : Expanded) → same_name a b ≡ true → a ≡ b
name_is a b h =
    let e = both_true (bytes_eq a.uri b.uri) (bytes_eq a.local b.local) h in
    let u = (bytes_eq-Decides a.uri b.uri).0 e.0 in
    let l = (bytes_eq-Decides a.local b.local).0 e.1 in
    λ i. record { uri = u i; local = l i }

pub name_turned : (a b : Expanded) → same_name a b ≡ same_name b a
name_turned a b = go (same_name a b) (same_name b a) refl refl
  where
    go : (x y : Bool) → same_name a b ≡ x → same_name b a ≡ y → x ≡ y
    go true true h g = refl
    go false false h g = refl
    go true false h g = sym (name_itself a) ∙ ap (λ c. same_name c a) (name_is a b h) ∙ g
    go false true h g = sym h ∙ ap (λ c. same_name c b) (sym (name_is b a g)) ∙ name_itself b

-- ---- options
pub found_some : {A : Type 0} (o : Option A) → is_some o ≡ true → (v : A) × (o ≡ Some v)
found_some None h = absurd (cc)
found_some (Some v) h = (v, refl)

same_option : {A : Type 0} (o p : Option A) → is_some o ≡ is_some p → ((w : A) → o ≡ Some w → p ≡ Some w) → o ≡ p
same_option None None h k = refl
same_option None (Some v) h k = absurd (cc)
same_option (Some v) p h k = sym (k v refl)

pub some_either : {A : Type 0} (t : Bool) (v : A) (o : Option A) → is_some (cond t (Some v) o) ≡ (t || is_some o)
some_either true v o = refl
some_either false v o = refl

or_turned : (x t y : Bool) → (x || (t || y)) ≡ ((t || x) || y)
or_turned true true y = refl
or_turned true false y = refl
or_turned false true y = refl
or_turned false false y = refl

pub or_true : (x y : Bool) → y ≡ true → (x || y) ≡ true
or_true true y h = refl
or_true false y h = h

-- ---- agreement, name by name
pub agree_at : {N : Type 0} (names : List Expanded) (bs ds : List (Bound N)) → Agree names bs ds → (name : Expanded) → list_any (same_name name) names ≡ true
    → binding_of name bs ≡ binding_of name ds
agree_at [] bs ds h name m = absurd (cc)
agree_at (other ∷ names) bs ds h name m = go (same_name name other) refl (agree_at names bs ds h.1 name) m
  where
    go : (t : Bool) → same_name name other ≡ t → (list_any (same_name name) names ≡ true → binding_of name bs ≡ binding_of name ds)
        → (t || list_any (same_name name) names) ≡ true → binding_of name bs ≡ binding_of name ds
    go true e later m = subst (λ n. binding_of n bs ≡ binding_of n ds) (sym (name_is name other e)) h.0
    go false e later m = later m

pub agree_all : {N : Type 0} (names : List Expanded) (bs ds : List (Bound N))
    → ((name : Expanded) → list_any (same_name name) names ≡ true → binding_of name bs ≡ binding_of name ds) → Agree names bs ds
agree_all [] bs ds h = tt
agree_all (name ∷ names) bs ds h = (
  h name (ap (λ t. t || list_any (same_name name) names) (name_itself name)),
  agree_all names bs ds (λ n m. h n (or_true (same_name n name) (list_any (same_name n) names) m)),
)

-- ---- what is passed, and taken
abbrev pub AllFound : {N : Type 0} → List Expanded → List (Bound N) → Type 0
AllFound [] ds = Unit {0}
AllFound {N = N} (name ∷ names) ds = ((v : Value N) × (binding_of name ds ≡ Some v)) × AllFound names ds

pub all_found : {N : Type 0} (names : List Expanded) (ds : List (Bound N))
    → ((name : Expanded) → list_any (same_name name) names ≡ true → is_some (binding_of name ds) ≡ true) → AllFound names ds
all_found [] ds h = tt
all_found (name ∷ names) ds h = (
  found_some (binding_of name ds) (h name (ap (λ t. t || list_any (same_name name) names) (name_itself name))),
  all_found names ds (λ n m. h n (or_true (same_name n name) (list_any (same_name n) names) m)),
)

-- the variables of these names with their values, the last one first, before others
abbrev pub given_from : {N : Type 0} → (names : List Expanded) → (ds : List (Bound N)) → AllFound names ds → List (Bound N) → List (Bound N)
given_from [] ds f es = es
given_from (name ∷ names) ds f es = given_from names ds f.1 (record { name = name; value = f.0.0 } ∷ es)

abbrev pub From : {N : Type 0} → List (Bound N) → List (Bound N) → Type 0
From ds [] = Unit {0}
From ds (b ∷ es) = (binding_of b.name ds ≡ Some b.value) × From ds es

pub from_given : {N : Type 0} (names : List Expanded) (ds : List (Bound N)) (f : AllFound names ds) (es : List (Bound N)) → From ds es
    → From ds (given_from names ds f es)
from_given [] ds f es h = h
from_given (name ∷ names) ds f es h = from_given names ds f.1 (record { name = name; value = f.0.0 } ∷ es) (f.0.1, h)

pub from_some : {N : Type 0} (ds es : List (Bound N)) → From ds es → (name : Expanded) (w : Value N) → binding_of name es ≡ Some w → binding_of name ds ≡ Some w
from_some ds [] h name w e = absurd (cc)
from_some {N = N} ds (b ∷ es) h name w e = go (same_name b.name name) refl (from_some ds es h.1 name w) e
  where
    go : (t : Bool) → same_name b.name name ≡ t → (binding_of name es ≡ Some w → binding_of name ds ≡ Some w) → cond t (Some b.value) (binding_of name es) ≡ Some w → binding_of name ds ≡ Some w
    go true s later e = subst (λ n. binding_of n ds ≡ Some b.value) (name_is b.name name s) h.0 ∙ e
    go false s later e = later e

pub is_given : {N : Type 0} (names : List Expanded) (ds : List (Bound N)) (f : AllFound names ds) (es : List (Bound N)) (name : Expanded)
    → is_some (binding_of name (given_from names ds f es)) ≡ (list_any (same_name name) names || is_some (binding_of name es))
is_given [] ds f es name = refl
is_given (other ∷ names) ds f es name =
    is_given names ds f.1 (record { name = other; value = f.0.0 } ∷ es) name
    ∙ ap (λ b. list_any (same_name name) names || b) (some_either (same_name other name) f.0.0 (binding_of name es))
    ∙ or_turned (list_any (same_name name) names) (same_name other name) (is_some (binding_of name es))
    ∙ ap (λ t. (t || list_any (same_name name) names) || is_some (binding_of name es)) (name_turned other name)

-- ---- the free variables
filtered_first : (t p x y : Bool) → (x ≡ true → y ≡ true) → (p ≡ true → (t || x) ≡ true) → (p ≡ false → x ≡ true) → (t || y) ≡ true
filtered_first true p x y later kept lost = refl
filtered_first false true x y later kept lost = later (kept refl)
filtered_first false false x y later kept lost = later (lost refl)

any_filtered : (test p : Expanded → Bool) (names : List Expanded) → list_any test (filter p names) ≡ true → list_any test names ≡ true
any_filtered test p [] h = h
any_filtered test p (name ∷ names) h =
    filtered_first (test name) (p name) (list_any test (filter p names)) (list_any test names) (any_filtered test p names)
    (λ e. sym (ap (λ b. list_any test (cond b (name ∷ filter p names) (filter p names))) e) ∙ h)
    (λ e. sym (ap (λ b. list_any test (cond b (name ∷ filter p names) (filter p names))) e) ∙ h)

pub free_is_in_scope : (scope : List Expanded) (is : Instrs) (name : Expanded) → list_any (same_name name) (free_in scope is) ≡ true
    → list_any (same_name name) scope ≡ true
free_is_in_scope scope is name h = any_filtered (same_name name) (λ n. list_any (same_name n) (mentioned_in is)) scope h

free_has : (scope : List Expanded) (is : Instrs) (name : Expanded) → list_any (same_name name) (mentioned_in is) ≡ true
    → list_any (same_name name) (free_in scope is) ≡ list_any (same_name name) scope
free_has scope is name m =
    any-filter_same (same_name name) (λ n. list_any (same_name n) (mentioned_in is)) true
    (λ k e. subst (λ n. list_any (same_name n) (mentioned_in is) ≡ true) (name_is name k e) m) scope

or_none : (x : Bool) → (x || false) ≡ x
or_none true = refl
or_none false = refl

-- what the template of a content takes agrees with what is in scope, as far as the content goes
pub agree_taken : {N : Type 0} (scope : List Expanded) (is : Instrs) (bs ds : List (Bound N)) → Agree (mentioned_in is) bs ds
    → ((name : Expanded) → list_any (same_name name) scope ≡ is_some (binding_of name ds)) → (f : AllFound (free_in scope is) ds)
    → (g : AllFound (free_in scope is) (given_from (free_in scope is) ds f [])) → Agree (mentioned_in is) bs (given_from (free_in scope is) (given_from (free_in scope is) ds f []) g [])
agree_taken scope is bs ds h named f g =
    let free = free_in scope is in
    let given = given_from free ds f [] in
    let taken = given_from free given g [] in
    agree_all (mentioned_in is) bs taken (λ name m.
    agree_at (mentioned_in is) bs ds h name m
    ∙ sym (same_option (binding_of name taken) (binding_of name ds)
    (is_given free given g [] name ∙ or_none (list_any (same_name name) free) ∙ free_has scope is name m ∙ named name)
    (λ w e. from_some ds given (from_given free ds f [] tt) name w (from_some given taken (from_given free given g [] tt) name w e))))

-- and its variables are the free ones
pub named_taken : {N : Type 0} (free : List Expanded) (ds : List (Bound N)) (f : AllFound free ds) (name : Expanded)
    → list_any (same_name name) free ≡ is_some (binding_of name (given_from free ds f []))
named_taken free ds f name = sym (is_given free ds f [] name ∙ or_none (list_any (same_name name) free))

pub found_passed : {N : Type 0} (free : List Expanded) (ds : List (Bound N)) (f : AllFound free ds) → AllFound free (given_from free ds f [])
found_passed free ds f = all_found free (given_from free ds f []) (λ name m. sym (named_taken free ds f name) ∙ m)
