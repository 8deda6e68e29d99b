-- Names among names.
use Rattle.std.proofs.Common.{◌≡◌, Bool, true, false, List, [], ◌∷◌, ◌++◌, map, refl, sym, ap}
use Rattle.std.specs.Prelude.{◌||◌, if◌then◌else◌}
use Rattle.std.specs.List.{list_any}
use Rattle.std.proofs.lemmas.List.{map-append}
use Rattle.spec_document.specs.Name.{same_name}
use Rattle.spec_compile.specs.Scoping.{is_named}
use Rattle.xt_scoping.specs.declared.key.Key.{Key}
use Rattle.xt_scoping.specs.Distinct.{names_of, with_name}

-- what passes among the values of a list
pub any_of : {K V : Type 0} (p : V → Bool) (f : K → V) (keys : List K) → list_any p (map f keys) ≡ list_any (λ key. p (f key)) keys
any_of p f [] = refl
any_of p f (key ∷ keys) = ap (λ b. p (f key) || b) (any_of p f keys)

abbrev pub is_key : Key → Key → Bool
is_key key other = same_name key.name.now other.name.now

pub among_keys : (keys : List Key) (key : Key) → list_any (is_key key) keys ≡ is_named (names_of keys) key.name.now
among_keys keys key = sym (any_of (same_name key.name.now) (λ (k : Key). k.name.now) keys)

chosen : (keys : List Key) (key : Key) (b c : Bool) → b ≡ c
    → names_of (if b then keys else keys ++ key ∷ []) ≡ (if c then names_of keys else names_of keys ++ key.name.now ∷ [])
chosen keys key true true e = refl
chosen keys key false false e = map-append (λ (k : Key). k.name.now) keys (key ∷ [])
chosen keys key true false e = absurd (cc)
chosen keys key false true e = absurd (cc)

pub one_inserted : (keys : List Key) (key : Key)
    → names_of (if list_any (is_key key) keys then keys else keys ++ key ∷ []) ≡ with_name (names_of keys) key.name.now
one_inserted keys key = chosen keys key (list_any (is_key key) keys) (is_named (names_of keys) key.name.now) (among_keys keys key)
