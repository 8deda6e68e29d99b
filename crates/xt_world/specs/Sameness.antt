-- That places and names are keys: equal ones are hashed alike.
use Rattle.std.specs.Prelude.{◌≡◌, ℕ, Bool, true, false, ◌&&◌, List, ◌++◌, [], Option, None, Some, bytes_eq, refl, IsTrue}
use Rattle.std.specs.Bool.{Decides}
use Rattle.std.specs.Cmp.{IsEquivalence, IsPartialEquivalence, partial_equiv_from_equiv, decided}
use Rattle.std.specs.Str.{encode_utf8_all}
use Rattle.std.specs.Hash as fed
use Rattle.std.proofs.Common.{ap, sym, ◌∙◌}
use Rattle.std.proofs.lemmas.Slice.Eq.{bytes_eq-Decides}
use Rattle.spec_document.specs.Name.{Expanded, same_name}
use Rattle.spec_stylesheet.specs.Place.{Place}
use Rattle.spec_run.specs.World.{same_element, same_module}

first_of : (a b : Bool) → (a && b) ≡ true → a ≡ true
first_of true b e = refl
first_of false b e = e

second_of : (a b : Bool) → (a && b) ≡ true → b ≡ true
second_of true b e = e
second_of false b e = absurd (cc)

both_true : (a b : Bool) → a ≡ true → b ≡ true → (a && b) ≡ true
both_true true b e h = h
both_true false b e h = e

abbrev of_parts : List ℕ → List ℕ → Expanded
of_parts uri local = record { uri = uri; local = local }

-- names are the same exactly if they are equal
pub same_name_is : (a b : Expanded) → Decides (same_name a b) (a ≡ b)
same_name_is a b = (
  λ e.
      let uri = (bytes_eq-Decides a.uri b.uri).0 (first_of (bytes_eq a.uri b.uri) (bytes_eq a.local b.local) e) in
      let local = (bytes_eq-Decides a.local b.local).0 (second_of (bytes_eq a.uri b.uri) (bytes_eq a.local b.local) e) in
      λ i. of_parts (uri i) (local i),
  λ e. both_true (bytes_eq a.uri b.uri) (bytes_eq a.local b.local) ((bytes_eq-Decides a.uri b.uri).1 (ap (λ n. n.uri) e))
      ((bytes_eq-Decides a.local b.local).1 (ap (λ n. n.local) e)),
)

pub same_names : IsEquivalence same_name
same_names = decided same_name same_name_is

pub same_names_partly : IsPartialEquivalence same_name
same_names_partly = partial_equiv_from_equiv same_names

abbrev pub fed_name : Expanded → List (List ℕ)
fed_name name = fed.str (encode_utf8_all name.uri) ++ fed.str (encode_utf8_all name.local)

pub same_fed_name : (a b : Expanded) → IsTrue (same_name a b) → fed_name a ≡ fed_name b
same_fed_name a b e = ap fed_name ((same_name_is a b).0 e)

bytes_themselves : (xs : List ℕ) → bytes_eq xs xs ≡ true
bytes_themselves xs = (bytes_eq-Decides xs xs).1 refl

module_itself : (m : Option (List ℕ)) → same_module m m ≡ true
module_itself None = refl
module_itself (Some m) = bytes_themselves m

same_modules : (m n : Option (List ℕ)) → same_module m n ≡ true → m ≡ n
same_modules None None h = refl
same_modules (Some m) (Some n) h = ap (λ x. Some x) ((bytes_eq-Decides m n).0 h)
same_modules None (Some n) h = absurd (cc)
same_modules (Some m) None h = absurd (cc)

pub element_itself : (p : Place) → same_element p p ≡ true
element_itself p = λ i. module_itself p.module_name i && bytes_themselves p.path i

pub same_places : (p q : Place) → same_element p q ≡ true → p ≡ q
same_places p q h =
    let module_name = same_modules p.module_name q.module_name (first_of (same_module p.module_name q.module_name) (bytes_eq p.path q.path) h) in
    let path = (bytes_eq-Decides p.path q.path).0 (second_of (same_module p.module_name q.module_name) (bytes_eq p.path q.path) h) in
    λ i. record { module_name = module_name i; path = path i }

-- places are the same exactly if they are equal
pub same_place_is : (p q : Place) → Decides (same_element p q) (p ≡ q)
same_place_is p q = (same_places p q, λ e. ap (same_element p) (sym e) ∙ element_itself p)

pub same_elements : IsEquivalence same_element
same_elements = decided same_element same_place_is

pub same_elements_partly : IsPartialEquivalence same_element
same_elements_partly = partial_equiv_from_equiv same_elements

abbrev pub fed_module : Option (List ℕ) → List (List ℕ)
fed_module None = []
fed_module (Some name) = fed.str (encode_utf8_all name)

abbrev pub fed_place : Place → List (List ℕ)
fed_place place = fed_module place.module_name ++ fed.slice fed.u64 place.path

pub same_fed_place : (a b : Place) → IsTrue (same_element a b) → fed_place a ≡ fed_place b
same_fed_place a b e = ap fed_place ((same_place_is a b).0 e)
