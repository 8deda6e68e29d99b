-- Keys of ordered sets, and the names that they stand for.
use Rattle.std.proofs.Common.{◌≡◌, ℕ, Bool, true, false, not, List, [], ◌∷◌, bytes_eq, string_bytes, map, Option, None, Some, refl, sym, ap}
use Rattle.std.proofs.Common.{◌∙◌}
use Rattle.std.specs.Prelude.{◌||◌, ◌&&◌}
use Rattle.std.specs.List.{list_any}
use Rattle.std.specs.Ordering.{is_eq, ordering_then, match_ordering}
use Rattle.std.specs.BTreeMap.{is_at}
use Rattle.std.specs.BTreeSet.{insert_key}
use Rattle.std.specs.String.{string_cmp}
use Rattle.std.specs.declared.cmp.Ordering.{Ordering}
use Rattle.std.specs.declared.cmp.Ordering.TheVariants.{Less, Equal, Greater}
use Rattle.std.specs.declared.alloc.Global.{Global}
use Rattle.std.specs.declared.string.String.{String}
use Rattle.std.proofs.lemmas.Map.Text.{is_eq-slice_cmp}
use Rattle.std.proofs.lemmas.Str.{IsUtf8-string_bytes}
use Rattle.std.proofs.lemmas.Bool.Decides.{same_from_decides}
use Rattle.std.proofs.lemmas.Slice.Eq.{bytes_eq-Decides}
use Rattle.spec_document.specs.Name.{Expanded, same_expanded}
use Rattle.xt_text.proofs.Chars.{same_chars}
use Rattle.xt_names.specs.NamesSoFar.{text_in, name_in, texts_in, names_in, is_written, is_expanded}

swapped : (a b c : Bool) → (a || (b || c)) ≡ (b || (a || c))
swapped true true c = refl
swapped true false c = refl
swapped false true c = refl
swapped false false c = refl

twice : (a b c : Bool) → a ≡ b → (b || c) ≡ (a || (b || c))
twice true true c e = refl
twice false false c e = refl
twice true false c e = absurd (cc)
twice false true c e = absurd (cc)

turned : (a b : Bool) → (a || b) ≡ (b || a)
turned true true = refl
turned true false = refl
turned false true = refl
turned false false = refl

pub recovered : (a b : Bool) → a ≡ not b → not a ≡ b
recovered true true e = absurd (cc)
recovered true false e = refl
recovered false true e = refl
recovered false false e = absurd (cc)

one_inserted : {K : Type 0} (p : K → Bool) (x : K) (xs : List K) (key : K) (more : List K) (o : Ordering) → (o ≡ Equal → p key ≡ p x)
    → list_any p more ≡ (p key || list_any p xs)
    → list_any p (match_ordering o (key ∷ x ∷ xs) (x ∷ xs) (x ∷ more)) ≡ (p key || (p x || list_any p xs))
one_inserted p x xs key more Less alike e = refl
one_inserted p x xs key more Equal alike e = twice (p key) (p x) (list_any p xs) (alike refl)
one_inserted p x xs key more Greater alike e = ap (λ b. p x || b) e ∙ swapped (p x) (p key) (list_any p xs)

-- a test passes for a key of the set with one key more where it passes for that key or for one before; it may tell equal
-- keys not apart
any_inserted : {K : Type 0} (cmp : K → K → Ordering) (p : K → Bool) → ((x y : K) → cmp x y ≡ Equal → p x ≡ p y) → (keys : List K) (key : K)
    → list_any p (insert_key cmp keys key) ≡ (p key || list_any p keys)
any_inserted cmp p alike [] key = refl
any_inserted cmp p alike (x ∷ xs) key = one_inserted p x xs key (insert_key cmp xs key) (cmp key x) (alike key x) (any_inserted cmp p alike xs key)

any_alike : {K : Type 0} (p q : K → Bool) → ((x : K) → p x ≡ q x) → (keys : List K) → list_any p keys ≡ list_any q keys
any_alike p q alike [] = refl
any_alike p q alike (x ∷ xs) = ap (λ b. b || list_any p xs) (alike x) ∙ ap (λ b. q x || b) (any_alike p q alike xs)

bytes_turned : (a b : List ℕ) → bytes_eq a b ≡ bytes_eq b a
bytes_turned a b =
    let there = bytes_eq-Decides a b in
    let back = bytes_eq-Decides b a in
    same_from_decides (bytes_eq a b) (bytes_eq b a) there (λ h. sym (back.0 h), λ e. back.1 (sym e))

-- keys are in one place of the order exactly if their texts are one
text_order : (x y : String Global) → is_eq (string_cmp x y) ≡ bytes_eq (text_in x) (text_in y)
text_order x y = is_eq-slice_cmp (string_bytes x) (string_bytes y)
    ∙ same_chars (string_bytes x) (string_bytes y) (IsUtf8-string_bytes x) (IsUtf8-string_bytes y)

same_text : (x y : String Global) → string_cmp x y ≡ Equal → text_in x ≡ text_in y
same_text x y e = (bytes_eq-Decides (text_in x) (text_in y)).0 (sym (text_order x y) ∙ ap is_eq e)

-- what passes among the values of a list
any_of : {K V : Type 0} (p : V → Bool) (f : K → V) (keys : List K) → list_any p (map f keys) ≡ list_any (λ key. p (f key)) keys
any_of p f [] = refl
any_of p f (key ∷ keys) = ap (λ b. p (f key) || b) (any_of p f keys)

-- ---- Texts

pub text_before : (keys : List (String Global)) (key : String Global) (text : List ℕ) → text_in key ≡ text
    → list_any (is_at (string_cmp key)) keys ≡ is_written (texts_in keys) text
text_before keys key text e =
    any_alike (is_at (string_cmp key)) (λ x. bytes_eq (text_in x) text)
    (λ x. text_order key x ∙ bytes_turned (text_in key) (text_in x) ∙ ap (bytes_eq (text_in x)) e) keys
    ∙ sym (any_of (λ t. bytes_eq t text) text_in keys)

pub text_kept : (keys : List (String Global)) (key : String Global) (text other : List ℕ) → text_in key ≡ text
    → is_written (texts_in (insert_key string_cmp keys key)) other ≡ (is_written (texts_in keys) other || bytes_eq text other)
text_kept keys key text other e =
    any_of (λ t. bytes_eq t other) text_in (insert_key string_cmp keys key)
    ∙ any_inserted string_cmp (λ x. bytes_eq (text_in x) other) (λ x y h. ap (λ t. bytes_eq t other) (same_text x y h)) keys key
    ∙ turned (bytes_eq (text_in key) other) (list_any (λ x. bytes_eq (text_in x) other) keys)
    ∙ ap (λ t. list_any (λ x. bytes_eq (text_in x) other) keys || bytes_eq t other) e
    ∙ ap (λ b. b || bytes_eq text other) (sym (any_of (λ t. bytes_eq t other) text_in keys))

-- ---- Expanded names

abbrev pub pair_cmp : String Global × String Global → String Global × String Global → Ordering
pair_cmp x y = ordering_then (string_cmp x.0 y.0) (string_cmp x.1 y.1)

both_equal : (a b : Ordering) → is_eq (ordering_then a b) ≡ (is_eq a && is_eq b)
both_equal Less b = refl
both_equal Equal b = refl
both_equal Greater b = refl

pair_order : (x y : String Global × String Global) → is_eq (pair_cmp x y) ≡ same_expanded (Some (name_in x)) (Some (name_in y))
pair_order x y =
    both_equal (string_cmp x.0 y.0) (string_cmp x.1 y.1)
    ∙ ap (λ b. b && is_eq (string_cmp x.1 y.1)) (text_order x.0 y.0)
    ∙ ap (λ b. bytes_eq (text_in x.0) (text_in y.0) && b) (text_order x.1 y.1)

expanded_turned : (a b : Expanded) → same_expanded (Some a) (Some b) ≡ same_expanded (Some b) (Some a)
expanded_turned a b =
    ap (λ s. s && bytes_eq a.local b.local) (bytes_turned a.uri b.uri) ∙ ap (λ s. bytes_eq b.uri a.uri && s) (bytes_turned a.local b.local)

first_equal : (a b : Ordering) → ordering_then a b ≡ Equal → a ≡ Equal
first_equal Less b e = e
first_equal Equal b e = refl
first_equal Greater b e = e

second_equal : (a b : Ordering) → ordering_then a b ≡ Equal → b ≡ Equal
second_equal Less b e = absurd (cc)
second_equal Equal b e = e
second_equal Greater b e = absurd (cc)

abbrev pub of_parts : List ℕ → List ℕ → Expanded
of_parts uri local = record { uri = uri; local = local }

pub parts_same : (uri local : List ℕ) (name : Expanded) → uri ≡ name.uri → local ≡ name.local → of_parts uri local ≡ name
parts_same uri local name e h = ap (λ u. of_parts u local) e ∙ ap (of_parts name.uri) h

alike : (x y : String Global × String Global) → pair_cmp x y ≡ Equal → name_in x ≡ name_in y
alike x y e =
    let uri = same_text x.0 y.0 (first_equal (string_cmp x.0 y.0) (string_cmp x.1 y.1) e) in
    let local = same_text x.1 y.1 (second_equal (string_cmp x.0 y.0) (string_cmp x.1 y.1) e) in
    parts_same (text_in x.0) (text_in x.1) (name_in y) uri local

pub pair_before : (keys : List (String Global × String Global)) (key : String Global × String Global) (name : Expanded) → name_in key ≡ name
    → list_any (is_at (pair_cmp key)) keys ≡ is_expanded (names_in keys) (Some name)
pair_before keys key name e =
    any_alike (is_at (pair_cmp key)) (λ x. same_expanded (Some (name_in x)) (Some name))
    (λ x. pair_order key x ∙ expanded_turned (name_in key) (name_in x) ∙ ap (λ n. same_expanded (Some (name_in x)) (Some n)) e) keys
    ∙ sym (any_of (λ n. same_expanded (Some n) (Some name)) name_in keys)

pub pair_kept : (keys : List (String Global × String Global)) (key : String Global × String Global) (name : Expanded) (other : Option Expanded)
    → name_in key ≡ name
    → is_expanded (names_in (insert_key pair_cmp keys key)) other ≡ (is_expanded (names_in keys) other || same_expanded (Some name) other)
pair_kept keys key name other e =
    let among = λ (ks : List (String Global × String Global)). list_any (λ x. same_expanded (Some (name_in x)) other) ks in
    any_of (λ n. same_expanded (Some n) other) name_in (insert_key pair_cmp keys key)
    ∙ any_inserted pair_cmp (λ x. same_expanded (Some (name_in x)) other) (λ x y h. ap (λ n. same_expanded (Some n) other) (alike x y h)) keys key
    ∙ turned (same_expanded (Some (name_in key)) other) (among keys)
    ∙ ap (λ n. among keys || same_expanded (Some n) other) e
    ∙ ap (λ b. b || same_expanded (Some name) other) (sym (any_of (λ n. same_expanded (Some n) other) name_in keys))

-- what has no expanded name is the same as no key
pub pair_none : (names : List Expanded) → is_expanded names None ≡ false
pair_none [] = refl
pair_none (name ∷ names) = pair_none names
