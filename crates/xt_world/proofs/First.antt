-- Maps that keep what was added first.
use Rattle.std.proofs.Common.{◌≡◌, ℕ, ◌==◌, Bool, true, false, cond, List, [], ◌∷◌, None, Some, refl, sym, ap, ◌∙◌, eq-eqb}
use Rattle.std.specs.Prelude.{is_some}
use Rattle.std.specs.Map.{lookup}
use Rattle.std.proofs.lemmas.Bool.Decides.{Decides-eqb}
use Rattle.indexmap.specs.IndexMap.{insert_entry}
use Rattle.spec_stylesheet.specs.Place.{Place}
use Rattle.spec_run.specs.World.{same_element}
use Rattle.xt_syntax.specs.PartView.{place_of}
use Rattle.xt_world.specs.Sameness.{same_place_is}
use Rattle.xt_world.specs.Turned.{at_number, at_place, found_or}
use Rattle.xt_world.specs.declared.key.PlaceKey.{PlaceKey}
use Rattle.xt_world.proofs.Keys.{chosen}

-- a test is of one key: it passes keys that are the same alike, and those that it passes are the same
pub record IsOfOne {K : Type 0} (eq : K → K → Bool) (test : K → Bool) : Type 0 where
  pub alike : (k l : K) → eq k l ≡ true → test k ≡ test l
  pub only : (k l : K) → test k ≡ true → test l ≡ true → eq k l ≡ true

-- after an insert the value of its key is found, and those of the others are as before
found_after : {K : Type 0} (eq : K → K → Bool) (test : K → Bool) → IsOfOne eq test → (key : K) (value : ℕ) (es : List (K × ℕ))
    → lookup test (insert_entry eq es key value) ≡ cond (test key) (Some value) (lookup test es)
found_after eq test one key value [] = refl
found_after eq test one key value (e ∷ es) =
    by (eq key e.0)
    ∙ ap (λ rest. cond (eq key e.0) (cond (test e.0) (Some value) (lookup test es)) (cond (test e.0) (Some e.1) rest)) (found_after eq test one key value es)
    ∙ chosen (eq key e.0) (test key) (test e.0) (Some value) (Some e.1) (lookup test es) (one.alike key e.0) (one.only key e.0)
  where
    by : (b : Bool) → lookup test (cond b ((e.0, value) ∷ es) (e ∷ insert_entry eq es key value))
        ≡ cond b (cond (test e.0) (Some value) (lookup test es)) (cond (test e.0) (Some e.1) (lookup test (insert_entry eq es key value)))
    by true = refl
    by false = refl

-- where a key is not there, a test that it passes finds nothing
absent : {K : Type 0} (eq : K → K → Bool) (test : K → Bool) → IsOfOne eq test → (key : K) (es : List (K × ℕ)) → test key ≡ true
    → is_some (lookup (eq key) es) ≡ false → lookup test es ≡ None
absent eq test one key [] t h = refl
absent eq test one key (e ∷ es) t h = by (λ g. absent eq test one key es t g) (eq key e.0) (test e.0) refl refl h
  where
    by : (is_some (lookup (eq key) es) ≡ false → lookup test es ≡ None) → (a b : Bool) → eq key e.0 ≡ a → test e.0 ≡ b
        → is_some (cond a (Some e.1) (lookup (eq key) es)) ≡ false → cond b (Some e.1) (lookup test es) ≡ None
    by rest true b x y h = absurd (cc)
    by rest false true x y h = absurd (let same = one.only key e.0 t y in cc)
    by rest false false x y h = rest h

-- what was added where there was none is found at its key
pub added_first : {K : Type 0} (eq : K → K → Bool) (test : K → Bool) → IsOfOne eq test → (key : K) (value other : ℕ) (old new : List (K × ℕ))
    → is_some (lookup (eq key) old) ≡ false → new ≡ insert_entry eq old key value
    → found_or other (lookup test new) ≡ found_or (cond (test key) value other) (lookup test old)
added_first {K} eq test one key value other old new none is =
    ap (λ (es : List (K × ℕ)). found_or other (lookup test es)) is ∙ ap (found_or other) (found_after eq test one key value old)
    ∙ by (test key) refl
  where
    by : (b : Bool) → test key ≡ b
        → found_or other (cond b (Some value) (lookup test old)) ≡ found_or (cond b value other) (lookup test old)
    by true e = sym (ap (found_or value) (absent eq test one key old e none))
    by false e = refl

-- what was added is found at its key, whatever stood there before
added_last : {K : Type 0} (eq : K → K → Bool) (test : K → Bool) → IsOfOne eq test → (key : K) (value other : ℕ) (old new : List (K × ℕ))
    → new ≡ insert_entry eq old key value
    → found_or other (lookup test new) ≡ cond (test key) value (found_or other (lookup test old))
added_last {K} eq test one key value other old new is =
    ap (λ (es : List (K × ℕ)). found_or other (lookup test es)) is ∙ ap (found_or other) (found_after eq test one key value old) ∙ by (test key)
  where
    by : (b : Bool) → found_or other (cond b (Some value) (lookup test old)) ≡ cond b value (found_or other (lookup test old))
    by true = refl
    by false = refl

abbrev pub same_number : ℕ → ℕ → Bool
same_number a b = a == b

abbrev pub same_key : PlaceKey → PlaceKey → Bool
same_key a b = same_element (place_of a.place.now) (place_of b.place.now)

of_number : (number : ℕ) → IsOfOne same_number (λ key. number == key)
of_number number = record {
  alike = λ k l e. ap (λ n. number == n) ((Decides-eqb k l).0 e);
  only = λ k l e h. eq-eqb k l (sym ((Decides-eqb number k).0 e) ∙ (Decides-eqb number l).0 h);
}

of_place : (place : Place) → IsOfOne same_key (λ (key : PlaceKey). same_element place (place_of key.place.now))
of_place place = record {
  alike = λ k l e. ap (same_element place) ((same_place_is (place_of k.place.now) (place_of l.place.now)).0 e);
  only = λ k l e h.
      (same_place_is (place_of k.place.now) (place_of l.place.now)).1
      (sym ((same_place_is place (place_of k.place.now)).0 e) ∙ (same_place_is place (place_of l.place.now)).0 h);
}

pub number_added : (key turn sought other : ℕ) (old new : List (ℕ × ℕ)) → is_some (lookup (same_number key) old) ≡ false
    → new ≡ insert_entry same_number old key turn
    → at_number other new sought ≡ at_number (cond (sought == key) turn other) old sought
number_added key turn sought other old new none is = added_first same_number (λ k. sought == k) (of_number sought) key turn other old new none is

pub place_added : (key : PlaceKey) (turn : ℕ) (sought : Place) (other : ℕ) (old new : List (PlaceKey × ℕ)) → is_some (lookup (same_key key) old) ≡ false
    → new ≡ insert_entry same_key old key turn
    → at_place other new sought ≡ at_place (cond (same_element sought (place_of key.place.now)) turn other) old sought
place_added key turn sought other old new none is =
    added_first same_key (λ (k : PlaceKey). same_element sought (place_of k.place.now)) (of_place sought) key turn other old new none is

pub place_set : (key : PlaceKey) (number : ℕ) (sought : Place) (other : ℕ) (old new : List (PlaceKey × ℕ)) → new ≡ insert_entry same_key old key number
    → at_place other new sought ≡ cond (same_element sought (place_of key.place.now)) number (at_place other old sought)
place_set key number sought other old new is =
    added_last same_key (λ (k : PlaceKey). same_element sought (place_of k.place.now)) (of_place sought) key number other old new is
