-- Names with precedences among others.
use Rattle.std.proofs.Common.{◌≡◌, ℕ, Bool, true, false, List, [], ◌∷◌, ◌++◌, refl, sym, ap, ◌∙◌, arith}
use Rattle.std.specs.Prelude.{◌==◌, ◌&&◌, ◌||◌, if◌then◌else◌}
use Rattle.std.specs.Cmp.{nat_eq_equiv}
use Rattle.std.specs.List.{list_any}
use Rattle.std.proofs.lemmas.Bool.Decides.{nat_tests}
use Rattle.std.proofs.lemmas.List.Folds.{list_any-append}
use Rattle.std.proofs.lemmas.List.{map-append}
use Rattle.spec_document.specs.Name.{Expanded, same_name}
use Rattle.xt_scoping.specs.declared.key.Key.{Key}
use Rattle.xt_scoping.specs.Precedences.{declared_at, declared_by, is_declared}
use Rattle.xt_scoping.specs.Laws.{same_is, first_of, second_of}
use Rattle.xt_scoping.proofs.Sets.{any_of}

abbrev pub is_ranked_key : ℕ × Key → ℕ × Key → Bool
is_ranked_key key other = (key.0 == other.0) && same_name key.1.name.now other.1.name.now

pub among_ranked : (keys : List (ℕ × Key)) (key : ℕ × Key) → list_any (is_ranked_key key) keys ≡ is_declared (declared_by keys) key.0 key.1.name.now
among_ranked keys key = sym (any_of (λ d. (key.0 == d.0) && same_name key.1.name.now d.1) declared_at keys)

pub turned_number : (a b : ℕ) → (a == b) ≡ (b == a)
turned_number a b = nat_eq_equiv.symm a b

pub equal_number : (a b : ℕ) → (a == b) ≡ true → a ≡ b
equal_number a b e = grind (arith, nat_tests)

absorbed : (a x : Bool) → (x ≡ true → a ≡ true) → a ≡ (a || x)
absorbed true x f = refl
absorbed false false f = refl
absorbed false true f = f refl

or_none : (a b : Bool) → (a || (b || false)) ≡ (a || b)
or_none true b = refl
or_none false true = refl
or_none false false = refl

kept : (keys : List (ℕ × Key)) (key : ℕ × Key) (p : ℕ) (n : Expanded) → list_any (is_ranked_key key) keys ≡ true
    → ((key.0 == p) && same_name n key.1.name.now) ≡ true → is_declared (declared_by keys) p n ≡ true
kept keys key p n there e =
    let number : key.0 ≡ p = equal_number key.0 p (first_of (key.0 == p) (same_name n key.1.name.now) e) in
    let name : n ≡ key.1.name.now = (same_is n key.1.name.now).0 (second_of (key.0 == p) (same_name n key.1.name.now) e) in
    ap (λ m. is_declared (declared_by keys) p m) name ∙ ap (λ q. is_declared (declared_by keys) q key.1.name.now) (sym number)
    ∙ sym (among_ranked keys key) ∙ there

pushed : (keys : List (ℕ × Key)) (key : ℕ × Key) (p : ℕ) (n : Expanded)
    → is_declared (declared_by (keys ++ key ∷ [])) p n ≡ (is_declared (declared_by keys) p n || ((key.0 == p) && same_name n key.1.name.now))
pushed keys key p n =
    ap (λ ds. is_declared ds p n) (map-append declared_at keys (key ∷ []))
    ∙ list_any-append (λ d. (p == d.0) && same_name n d.1) (declared_by keys) (declared_at key ∷ [])
    ∙ or_none (is_declared (declared_by keys) p n) ((p == key.0) && same_name n key.1.name.now)
    ∙ ap (λ b. is_declared (declared_by keys) p n || (b && same_name n key.1.name.now)) (turned_number p key.0)

chosen : (keys : List (ℕ × Key)) (key : ℕ × Key) (p : ℕ) (n : Expanded) (b : Bool) → list_any (is_ranked_key key) keys ≡ b
    → is_declared (declared_by (if b then keys else keys ++ key ∷ [])) p n
    ≡ (is_declared (declared_by keys) p n || ((key.0 == p) && same_name n key.1.name.now))
chosen keys key p n true there =
    absorbed (is_declared (declared_by keys) p n) ((key.0 == p) && same_name n key.1.name.now) (kept keys key p n there)
chosen keys key p n false new = pushed keys key p n

pub ranked_inserted : (keys : List (ℕ × Key)) (key : ℕ × Key) (p : ℕ) (n : Expanded)
    → is_declared (declared_by (if list_any (is_ranked_key key) keys then keys else keys ++ key ∷ [])) p n
    ≡ (is_declared (declared_by keys) p n || ((key.0 == p) && same_name n key.1.name.now))
ranked_inserted keys key p n = chosen keys key p n (list_any (is_ranked_key key) keys) refl
