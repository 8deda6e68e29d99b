-- That names are keys: equal names are hashed alike.
use Rattle.std.specs.Prelude.{◌≡◌, ℕ, Bool, true, false, ◌&&◌, List, ◌++◌, bytes_eq, refl, IsTrue}
use Rattle.std.specs.Bool.{Decides}
use Rattle.std.specs.Cmp.{IsEquivalence, IsPartialEquivalence, partial_equiv_from_equiv, decided}
use Rattle.std.specs.Str.{encode_utf8_all}
use Rattle.std.specs.Hash as fed
use Rattle.std.proofs.Common.{ap}
use Rattle.std.proofs.lemmas.Slice.Eq.{bytes_eq-Decides}
use Rattle.spec_document.specs.Name.{Expanded, same_name}

abbrev of_parts : List ℕ → List ℕ → Expanded
of_parts uri local = record { uri = uri; local = local }

pub first_of : (a b : Bool) → (a && b) ≡ true → a ≡ true
first_of true b e = refl
first_of false b e = e

pub second_of : (a b : Bool) → (a && b) ≡ true → b ≡ true
second_of true b e = e
second_of false b e = absurd (cc)

both_true : (a b : Bool) → a ≡ true → b ≡ true → (a && b) ≡ true
both_true true b e h = h
both_true false b e h = e

-- names are the same exactly if they are equal
pub same_is : (a b : Expanded) → Decides (same_name a b) (a ≡ b)
same_is a b = (
  λ e.
      let uri = (bytes_eq-Decides a.uri b.uri).0 (first_of (bytes_eq a.uri b.uri) (bytes_eq a.local b.local) e) in
      let local = (bytes_eq-Decides a.local b.local).0 (second_of (bytes_eq a.uri b.uri) (bytes_eq a.local b.local) e) in
      λ i. of_parts (uri i) (local i),
  λ e. both_true (bytes_eq a.uri b.uri) (bytes_eq a.local b.local) ((bytes_eq-Decides a.uri b.uri).1 (ap (λ n. n.uri) e))
      ((bytes_eq-Decides a.local b.local).1 (ap (λ n. n.local) e)),
)

pub same_names : IsEquivalence same_name
same_names = decided same_name same_is

pub same_names_partly : IsPartialEquivalence same_name
same_names_partly = partial_equiv_from_equiv same_names

abbrev pub fed_name : Expanded → List (List ℕ)
fed_name name = fed.str (encode_utf8_all name.uri) ++ fed.str (encode_utf8_all name.local)

pub same_fed : (a b : Expanded) → IsTrue (same_name a b) → fed_name a ≡ fed_name b
same_fed a b e = ap fed_name ((same_is a b).0 e)
