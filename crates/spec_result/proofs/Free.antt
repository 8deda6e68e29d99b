-- A prefix that is made is a name, and is free: of so many more than there are namespaces in scope, one is.
use Rattle.std.proofs.Common.{◌≡◌, ◌<◌, ◌≤◌, ◌+◌, ◌∙◌, refl, sym, ap, ℕ, zero, suc, Bool, true, false, cond, not, List, [], ◌∷◌, length, drop, Some, bytes_eq, arith}
use mathlib.Core.Logic.{inl, inr}
use Rattle.std.specs.Prelude.{◌||◌, ◌&&◌, ◌⊎◌, ◌^◌, if◌then◌else◌, unwrap_or, decimal, nat_le}
use Rattle.std.specs.List.{filter, list_any, list_all}
use Rattle.std.specs.Ordering.{nat_cmp, eq_by_cmp}
use Rattle.std.specs.Cmp.Lexicographic.{slice_cmp}
use Rattle.std.specs.FinMap.{entries, get-entries}
use Rattle.std.specs.FinMap.Entries.{find}
use Rattle.std.specs.Str.Parse.{AllDigits}
use Rattle.std.proofs.lemmas.Bool.{le-leb}
use Rattle.std.proofs.lemmas.Fmt.{decimal_is_IsNumeral, decimal_injective}
use Rattle.std.proofs.lemmas.Str.Parse.{digit_from_value}
use Rattle.std.proofs.lemmas.Map.Text.{is_eq-slice_cmp}
use Rattle.spec_document.specs.Character.{is_name_start, is_name_part, is_between}
use Rattle.spec_document.specs.Name.{is_ncname}
use Rattle.spec_document.specs.Scope.{Scope}
use Rattle.spec_document.specs.Declaration.{is_there, namespaces_in}
use Rattle.spec_result.specs.Recovery.{NamespaceNode}
use Rattle.spec_result.specs.Shape.{uri_in, is_bound_to, is_free, made_prefix, first_free, new_prefix}
use Rattle.spec_result.proofs.Kept.{same, itself}

-- ---- More different texts than entries are not all among them

abbrev key_is : List ℕ → NamespaceNode → Bool
key_is q n = bytes_eq q n.0

abbrev removed : List ℕ → List NamespaceNode → List NamespaceNode
removed x [] = []
removed x (n ∷ ns) = cond (bytes_eq x n.0) ns (n ∷ removed x ns)

one_less : (x : List ℕ) (ns : List NamespaceNode) → list_any (key_is x) ns ≡ true → length ns ≡ length (removed x ns) + 1
one_less x [] h = absurd (cc)
one_less x (n ∷ ns) h = at (bytes_eq x n.0) h (one_less x ns)
  where
    at : (b : Bool) → (b || list_any (key_is x) ns) ≡ true → (list_any (key_is x) ns ≡ true → length ns ≡ length (removed x ns) + 1)
        → length (n ∷ ns) ≡ length (cond b ns (n ∷ removed x ns)) + 1
    at true e more = omega arith
    at false e more = let rest = more e in omega (arith, rest)

still_there : (x z : List ℕ) (ns : List NamespaceNode) → bytes_eq x z ≡ false → list_any (key_is z) ns ≡ true → list_any (key_is z) (removed x ns) ≡ true
still_there x z [] d h = absurd (cc)
still_there x z (n ∷ ns) d h = at (bytes_eq x n.0) (bytes_eq z n.0) refl refl h (still_there x z ns d)
  where
    at : (b c : Bool) → bytes_eq x n.0 ≡ b → bytes_eq z n.0 ≡ c → (c || list_any (key_is z) ns) ≡ true
        → (list_any (key_is z) ns ≡ true → list_any (key_is z) (removed x ns) ≡ true) → list_any (key_is z) (cond b ns (n ∷ removed x ns)) ≡ true
    at true true e f t more =
        let alike : x ≡ z = same x n.0 e ∙ sym (same z n.0 f) in
        let wrong : true ≡ false = sym (itself x) ∙ ap (bytes_eq x) alike ∙ d in absurd (cc)
    at true false e f t more = t
    at false true e f t more = ap (λ r. r || list_any (key_is z) (removed x ns)) f
    at false false e f t more = ap (λ r. r || list_any (key_is z) (removed x ns)) f ∙ more t

abbrev AllAmong : List (List ℕ) → List NamespaceNode → Type 0
AllAmong [] ns = Unit {0}
AllAmong (x ∷ xs) ns = (list_any (key_is x) ns ≡ true) × AllAmong xs ns

abbrev AreDistinct : List (List ℕ) → Type 0
AreDistinct [] = Unit {0}
AreDistinct (x ∷ xs) = (list_any (bytes_eq x) xs ≡ false) × AreDistinct xs

or_no : (a b : Bool) → (a || b) ≡ false → (a ≡ false) × (b ≡ false)
or_no true b e = absurd (cc)
or_no false b e = (refl, e)

all_there : (x : List ℕ) (xs : List (List ℕ)) (ns : List NamespaceNode) → list_any (bytes_eq x) xs ≡ false → AllAmong xs ns → AllAmong xs (removed x ns)
all_there x [] ns d h = tt
all_there x (y ∷ ys) ns d h =
    let parts = or_no (bytes_eq x y) (list_any (bytes_eq x) ys) d in
    (still_there x y ns parts.0 h.0, all_there x ys ns parts.1 h.1)

no_more : (xs : List (List ℕ)) (ns : List NamespaceNode) → AreDistinct xs → AllAmong xs ns → length xs ≤ length ns
no_more [] ns d h = omega arith
no_more (x ∷ xs) ns d h =
    let less = one_less x ns h.0 in
    let rest = no_more xs (removed x ns) d.1 (all_there x xs ns d.0 h.1) in
    omega (arith, less, rest)

-- ---- Prefixes that stand for a namespace are among those in scope

or_left : (a b : Bool) → a ≡ true → (a || b) ≡ true
or_left true b e = refl
or_left false b e = absurd (cc)

or_right : (a b : Bool) → b ≡ true → (a || b) ≡ true
or_right true b e = refl
or_right false b e = e

and_true : (a b : Bool) → a ≡ true → b ≡ true → (a && b) ≡ true
and_true true b e h = h
and_true false b e h = absurd (cc)

kept_any : (b : Bool) (test : NamespaceNode → Bool) (e : NamespaceNode) (rest : List NamespaceNode)
    → list_any test (cond b (e ∷ rest) rest) ≡ ((b && test e) || list_any test rest)
kept_any true test e rest = refl
kept_any false test e rest = refl

abbrev in_force : List NamespaceNode → List NamespaceNode
in_force es = filter (λ n. is_there n.1) es

found_there : (es : List NamespaceNode) (q : List ℕ) → is_there (unwrap_or (find (slice_cmp nat_cmp) q es) []) ≡ true
    → list_any (key_is q) (in_force es) ≡ true
found_there [] q h = absurd (cc)
found_there (e ∷ es) q h = kept_any (is_there e.1) (key_is q) e (in_force es) ∙ at (eq_by_cmp (slice_cmp nat_cmp) q e.0) refl h (found_there es q)
  where
    at : (b : Bool) → eq_by_cmp (slice_cmp nat_cmp) q e.0 ≡ b
        → is_there (unwrap_or (cond b (Some e.1) (find (slice_cmp nat_cmp) q es)) []) ≡ true
        → (is_there (unwrap_or (find (slice_cmp nat_cmp) q es) []) ≡ true → list_any (key_is q) (in_force es) ≡ true)
        → ((is_there e.1 && bytes_eq q e.0) || list_any (key_is q) (in_force es)) ≡ true
    at true t s more =
        or_left (is_there e.1 && bytes_eq q e.0) (list_any (key_is q) (in_force es))
        (and_true (is_there e.1) (bytes_eq q e.0) s (sym (is_eq-slice_cmp q e.0) ∙ t))
    at false t s more = or_right (is_there e.1 && bytes_eq q e.0) (list_any (key_is q) (in_force es)) (more s)

in_scope : (scope : Scope) (q : List ℕ) → is_there (uri_in scope q) ≡ true → list_any (key_is q) (namespaces_in scope) ≡ true
in_scope scope q h = found_there (entries scope) q (sym (ap (λ o. is_there (unwrap_or o [])) (get-entries scope q)) ∙ h)

-- ---- The search

abbrev candidates : (more tried : ℕ) → List (List ℕ)
candidates zero tried = []
candidates (suc more) tried = made_prefix tried ∷ candidates more (tried + 1)

candidates_length : (more tried : ℕ) → length (candidates more tried) ≡ more
candidates_length zero tried = refl
candidates_length (suc more) tried = ap suc (candidates_length more (tried + 1))

told_apart : (t s : ℕ) → t < s → s < 2 ^ 63 → bytes_eq (made_prefix t) (made_prefix s) ≡ false
told_apart t s less small = at (bytes_eq (made_prefix t) (made_prefix s)) refl
  where
    at : (b : Bool) → bytes_eq (made_prefix t) (made_prefix s) ≡ b → b ≡ false
    at false e = refl
    at true e =
        let digits : decimal (t + 1) ≡ decimal (s + 1) = ap (drop 2) (same (made_prefix t) (made_prefix s) e) in
        let one : t + 1 ≡ s + 1 = decimal_injective (t + 1) (s + 1) (omega (arith, less, small)) (omega (arith, small)) digits in
        absurd (omega (arith, one, less))

neither : (a b : Bool) → a ≡ false → b ≡ false → (a || b) ≡ false
neither true b e h = absurd (cc)
neither false b e h = h

none_later : (t more s : ℕ) → t < s → s + more ≤ 2 ^ 63 → list_any (bytes_eq (made_prefix t)) (candidates more s) ≡ false
none_later t zero s less small = refl
none_later t (suc more) s less small =
    neither (bytes_eq (made_prefix t) (made_prefix s)) (list_any (bytes_eq (made_prefix t)) (candidates more (s + 1)))
    (told_apart t s less (omega (arith, small))) (none_later t more (s + 1) (omega (arith, less)) (omega (arith, small)))

distinct : (more tried : ℕ) → tried + more ≤ 2 ^ 63 → AreDistinct (candidates more tried)
distinct zero tried small = tt
distinct (suc more) tried small = (none_later tried more (tried + 1) (omega arith) (omega (arith, small)), distinct more (tried + 1) (omega (arith, small)))

not_free : (there bound : Bool) → (not there || bound) ≡ false → there ≡ true
not_free true bound e = refl
not_free false bound e = absurd (cc)

searched : (scope : Scope) (uri : List ℕ) (more tried : ℕ) → (is_free scope (first_free scope uri more tried) uri ≡ true)
    ⊎ AllAmong (candidates (suc more) tried) (namespaces_in scope)
searched scope uri zero tried = at (is_free scope (made_prefix tried) uri) refl
  where
    at : (b : Bool) → is_free scope (made_prefix tried) uri ≡ b
        → (is_free scope (made_prefix tried) uri ≡ true) ⊎ AllAmong (candidates 1 tried) (namespaces_in scope)
    at true e = inl e
    at false e =
        inr (in_scope scope (made_prefix tried) (not_free (is_there (uri_in scope (made_prefix tried))) (is_bound_to scope (made_prefix tried) uri) e), tt)
searched scope uri (suc more) tried = at (is_free scope (made_prefix tried) uri) refl (searched scope uri more (tried + 1))
  where
    at : (b : Bool) → is_free scope (made_prefix tried) uri ≡ b
        → (is_free scope (first_free scope uri more (tried + 1)) uri ≡ true) ⊎ AllAmong (candidates (suc more) (tried + 1)) (namespaces_in scope)
        → (is_free scope (if b then made_prefix tried else first_free scope uri more (tried + 1)) uri ≡ true)
        ⊎ AllAmong (candidates (suc (suc more)) tried) (namespaces_in scope)
    at true e rest = inl e
    at false e (inl free) = inl free
    at false e (inr all) =
        inr (in_scope scope (made_prefix tried) (not_free (is_there (uri_in scope (made_prefix tried))) (is_bound_to scope (made_prefix tried) uri) e), all)

pub made_free : (scope : Scope) (uri : List ℕ) → length (namespaces_in scope) < 2 ^ 63 → is_free scope (new_prefix scope uri) uri ≡ true
made_free scope uri small = at (searched scope uri (length (namespaces_in scope)) 0)
  where
    at : (is_free scope (new_prefix scope uri) uri ≡ true) ⊎ AllAmong (candidates (suc (length (namespaces_in scope))) 0) (namespaces_in scope)
        → is_free scope (new_prefix scope uri) uri ≡ true
    at (inl free) = free
    at (inr all) =
        let most = length (namespaces_in scope) in
        let more = no_more (candidates (suc most) 0) (namespaces_in scope) (distinct (suc most) 0 (omega (arith, small))) all in
        let count = candidates_length (suc most) 0 in
        absurd (omega (arith, more, count))

-- ---- It is a name

digit_between : (c : ℕ) → 48 ≤ c → c ≤ 57 → is_between 0x30 0x39 c ≡ true
digit_between c low high = and_true (nat_le 48 c) (nat_le c 57) (le-leb 48 c low) (le-leb c 57 high)

digit_part : (c : ℕ) → is_between 0x30 0x39 c ≡ true → is_name_part c ≡ true
unfolding is_name_part
digit_part c h = or_left _ _ (or_left _ _ (or_left _ _ (or_right _ _ h)))

all_parts : (ds : List ℕ) → AllDigits 10 ds → list_all is_name_part ds ≡ true
all_parts [] h = refl
all_parts (c ∷ cs) h =
    let in_range = digit_from_value c h.0 in
    and_true (is_name_part c) (list_all is_name_part cs) (digit_part c (digit_between c in_range.0 in_range.1)) (all_parts cs h.1)

letters : (is_name_start 0x6E ≡ true) × (is_name_part 0x73 ≡ true)
unfolding is_name_start is_name_part
letters = (refl, refl)

made_name : (k : ℕ) → k < 2 ^ 63 → is_ncname (made_prefix k) ≡ true
made_name k small =
    and_true (is_name_start 0x6E) (is_name_part 0x73 && list_all is_name_part (decimal (k + 1))) letters.0
    (and_true (is_name_part 0x73) (list_all is_name_part (decimal (k + 1))) letters.1
    (all_parts (decimal (k + 1)) (decimal_is_IsNumeral (k + 1) (omega (arith, small))).0.1))

first_name : (scope : Scope) (uri : List ℕ) (more tried : ℕ) → tried + more < 2 ^ 63 → is_ncname (first_free scope uri more tried) ≡ true
first_name scope uri zero tried small = made_name tried (omega (arith, small))
first_name scope uri (suc more) tried small =
    at (is_free scope (made_prefix tried) uri) (made_name tried (omega (arith, small))) (first_name scope uri more (tried + 1) (omega (arith, small)))
  where
    at : (b : Bool) → is_ncname (made_prefix tried) ≡ true → is_ncname (first_free scope uri more (tried + 1)) ≡ true
        → is_ncname (if b then made_prefix tried else first_free scope uri more (tried + 1)) ≡ true
    at true here later = here
    at false here later = later

pub made_is_name : (scope : Scope) (uri : List ℕ) → length (namespaces_in scope) < 2 ^ 63 → is_ncname (new_prefix scope uri) ≡ true
made_is_name scope uri small = first_name scope uri (length (namespaces_in scope)) 0 (omega (arith, small))
