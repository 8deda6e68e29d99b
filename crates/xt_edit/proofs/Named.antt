-- Attributes of a written name.
use Rattle.std.proofs.Common.{◌≡◌, ℕ, Bool, true, false, cond, List, [], ◌∷◌, ◌++◌, map, refl, sym, ap, ◌∙◌, true≢false}
use Rattle.std.specs.Prelude.{◌||◌}
use Rattle.std.specs.List.{list_any}
use Rattle.std.proofs.lemmas.List.{map-append}
use Rattle.spec_document.specs.Forest.{Written}
use Rattle.spec_edit.specs.Edit.{is_named, set_in, with_attribute}

pub any_map : {X Y : Type 0} (p : Y → Bool) (f : X → Y) (xs : List X) → list_any (λ x. p (f x)) xs ≡ list_any p (map f xs)
any_map p f [] = refl
any_map p f (x ∷ xs) = ap (λ b. p (f x) || b) (any_map p f xs)

pub map_last : {X Y : Type 0} (f : X → Y) (xs : List X) (x : X) → map f (xs ++ x ∷ []) ≡ map f xs ++ f x ∷ []
map_last f xs x = map-append f xs (x ∷ [])

abbrev made : (name value : List ℕ) → Written
made name value = record { name = name; value = value }

neither : (a b : Bool) → (a || b) ≡ false → (a ≡ false) × (b ≡ false)
neither true b h = absurd (true≢false h)
neither false b h = (refl, h)

-- where none has the name, all stay as they are
unchanged : (name value : List ℕ) (attributes : List Written) → list_any (is_named name) attributes ≡ false
    → map (set_in name value) attributes ≡ attributes
unchanged name value [] h = refl
unchanged name value (a ∷ attributes) h =
    let others = neither (is_named name a) (list_any (is_named name) attributes) h in
    λ i. cond (others.0 i) (made name value) a ∷ unchanged name value attributes others.1 i

pub in_place : (name value : List ℕ) (attributes : List Written) → list_any (is_named name) attributes ≡ true
    → map (set_in name value) attributes ≡ with_attribute name value attributes
in_place name value attributes h =
    sym (ap (λ b. cond b (map (set_in name value) attributes) (attributes ++ made name value ∷ [])) h)

pub put_last : (name value : List ℕ) (attributes : List Written) → list_any (is_named name) attributes ≡ false
    → map (set_in name value) attributes ++ made name value ∷ [] ≡ with_attribute name value attributes
put_last name value attributes h =
    ap (λ list. list ++ made name value ∷ []) (unchanged name value attributes h)
    ∙ sym (ap (λ b. cond b (map (set_in name value) attributes) (attributes ++ made name value ∷ [])) h)
