-- The last of the aliases of each URI, gathered from the end.
use Rattle.std.proofs.Common.{◌≡◌, ℕ, Bool, true, false, List, [], ◌∷◌, ◌++◌, map, reverse, refl, sym, ap, ◌∙◌, bytes_eq, append_assoc}
use Rattle.std.specs.Prelude.{◌||◌, if◌then◌else◌}
use Rattle.std.specs.List.{list_any}
use Rattle.std.proofs.lemmas.List.{map-append, reverse-append}
use Rattle.std.proofs.lemmas.List.Sorted.{list_any-IsPermutation, IsPermutation-reverse}
use Rattle.std.proofs.lemmas.Slice.Eq.{bytes_eq-Decides}
use Rattle.spec_stylesheet.specs.Sheet.{Alias}
use Rattle.spec_compile.specs.Sheet.{is_alias_of, last_aliases}
use Rattle.xt_syntax.specs.SheetView.{alias_of}
use Rattle.xt_syntax.specs.declared.sheet.Alias as program

same_uri : (a b c : Alias) → is_alias_of a b ≡ true → is_alias_of a c ≡ is_alias_of b c
same_uri a b c e = ap (λ (uri : List ℕ). bytes_eq uri c.stylesheet) ((bytes_eq-Decides a.stylesheet b.stylesheet).0 e)

any_uri : (a b : Alias) (cs : List Alias) → is_alias_of a b ≡ true → list_any (is_alias_of a) cs ≡ list_any (is_alias_of b) cs
any_uri a b [] e = refl
any_uri a b (c ∷ cs) e =
    ap (λ x. x || list_any (is_alias_of a) cs) (same_uri a b c e) ∙ ap (λ x. is_alias_of b c || x) (any_uri a b cs e)

-- what is dropped has one behind it
dropped : (a b : Alias) (cs : List Alias) → list_any (is_alias_of b) cs ≡ true → list_any (is_alias_of a) cs ≡ list_any (is_alias_of a) (b ∷ cs)
dropped a b cs h = at (is_alias_of a b) refl
  where
    at : (t : Bool) → is_alias_of a b ≡ t → list_any (is_alias_of a) cs ≡ list_any (is_alias_of a) (b ∷ cs)
    at true e = any_uri a b cs e ∙ h ∙ ap (λ x. x || list_any (is_alias_of a) cs) (sym e)
    at false e = ap (λ x. x || list_any (is_alias_of a) cs) (sym e)

last_if : (a b : Alias) (cs : List Alias) (t : Bool) → list_any (is_alias_of b) cs ≡ t → list_any (is_alias_of a) (last_aliases cs) ≡ list_any (is_alias_of a) cs
    → list_any (is_alias_of a) (if t then last_aliases cs else b ∷ last_aliases cs) ≡ list_any (is_alias_of a) (b ∷ cs)
last_if a b cs true h more = more ∙ dropped a b cs h
last_if a b cs false h more = ap (λ x. is_alias_of a b || x) more

pub any_last : (a : Alias) (cs : List Alias) → list_any (is_alias_of a) (last_aliases cs) ≡ list_any (is_alias_of a) cs
any_last a [] = refl
any_last a (b ∷ cs) = last_if a b cs (list_any (is_alias_of b) cs) refl (any_last a cs)

-- what is kept so far, from the end, of the last ones
pub record Keeps (kept later : List program.Alias) : Type 0 where
  pub so : map alias_of (reverse kept) ≡ last_aliases (map alias_of later)

map_reverse : (xs : List program.Alias) → map alias_of (reverse xs) ≡ reverse (map alias_of xs)
map_reverse [] = refl
map_reverse (x ∷ xs) =
    ap (map alias_of) (reverse-append (x ∷ []) xs) ∙ map-append alias_of (reverse xs) (x ∷ []) ∙ ap (λ (rest : List Alias). rest ++ alias_of x ∷ []) (map_reverse xs)
    ∙ sym (reverse-append (alias_of x ∷ []) (map alias_of xs))

any_kept : (a : Alias) (kept later : List program.Alias) → Keeps kept later → list_any (is_alias_of a) (map alias_of kept) ≡ list_any (is_alias_of a) (map alias_of later)
any_kept a kept later k =
    list_any-IsPermutation (is_alias_of a) (map alias_of kept) (reverse (map alias_of kept)) (IsPermutation-reverse (map alias_of kept))
    ∙ ap (list_any (is_alias_of a)) (sym (map_reverse kept) ∙ k.so) ∙ any_last a (map alias_of later)

pub keeps_one : (kept later : List program.Alias) (a : program.Alias) → Keeps kept later → list_any (is_alias_of (alias_of a)) (map alias_of kept) ≡ false
    → Keeps (kept ++ a ∷ []) (a ∷ later)
keeps_one kept later a k h =
    let none = sym (any_kept (alias_of a) kept later k) ∙ h in
    record { so = ap (map alias_of) (reverse-append kept (a ∷ [])) ∙ ap (λ (rest : List Alias). alias_of a ∷ rest) k.so ∙ rw none refl }

pub keeps_none : (kept later : List program.Alias) (a : program.Alias) → Keeps kept later → list_any (is_alias_of (alias_of a)) (map alias_of kept) ≡ true
    → Keeps kept (a ∷ later)
keeps_none kept later a k h =
    let some = sym (any_kept (alias_of a) kept later k) ∙ h in
    record { so = k.so ∙ rw some refl }

pub is_later : {X : Type 0} (whole rest all : List X) (x : X) (later : List X) → whole ≡ rest ++ x ∷ [] → whole ++ later ≡ all → rest ++ x ∷ later ≡ all
is_later whole rest all x later e is = sym (append_assoc rest (x ∷ []) later) ∙ ap (λ (xs : List _). xs ++ later) (sym e) ∙ is
