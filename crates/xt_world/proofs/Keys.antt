-- Values by their names: keys are texts, names are characters.
use Rattle.std.proofs.Common.{◌≡◌, ℕ, Bool, true, false, cond, List, [], ◌∷◌, None, Some, bytes_eq, string_bytes, refl, sym, ap}
use Rattle.std.proofs.Common.{◌∙◌}
use Rattle.std.specs.Prelude.{Result, Ok, Err, IsOk, OnOk}
use Rattle.std.proofs.lemmas.Str.{IsUtf8-string_bytes}
use Rattle.std.proofs.lemmas.Slice.Eq.{bytes_eq-Decides}
use Rattle.std.specs.Map.{lookup, remove_entry}
use Rattle.std.specs.Str.{chars, IsUtf8}
use Rattle.std.specs.String.{string_eq}
use Rattle.std.specs.declared.alloc.Global.{Global}
use Rattle.std.specs.declared.string.String.{String}
use Rattle.indexmap.specs.IndexMap.{insert_entry}
use Rattle.xt_text.proofs.Chars.{same_chars}
use Rattle.xt_world.specs.ParameterView.{has_name, values_in, with_value}

-- an entry is found by the bytes of a text as by its characters
pub by_characters : {X : Type 0} (text : List ℕ) → IsUtf8 text → (es : List (String Global × X))
    → lookup (λ key. bytes_eq text (string_bytes key)) es ≡ lookup (has_name (chars text)) es
by_characters text u [] = refl
by_characters text u (e ∷ es) =
    ap (λ b. cond b (Some e.1) (lookup (λ key. bytes_eq text (string_bytes key)) es)) (same_chars text (string_bytes e.0) u (IsUtf8-string_bytes e.0))
    ∙ ap (λ rest. cond (has_name (chars text) e.0) (Some e.1) rest) (by_characters text u es)

-- which of two values is found, by whether the keys are one and which of them is sought
pub chosen : {X : Type 0} (one first second : Bool) (v w rest : X) → (one ≡ true → first ≡ second)
    → (first ≡ true → second ≡ true → one ≡ true)
    → cond one (cond second v rest) (cond second w (cond first v rest)) ≡ cond first v (cond second w rest)
chosen true true true v w rest f g = refl
chosen true true false v w rest f g = let e = f refl in absurd (cc)
chosen true false true v w rest f g = let e = f refl in absurd (cc)
chosen true false false v w rest f g = refl
chosen false true true v w rest f g = let e = g refl refl in absurd (cc)
chosen false true false v w rest f g = refl
chosen false false true v w rest f g = refl
chosen false false false v w rest f g = refl

equal : (a b : List ℕ) → bytes_eq a b ≡ true → a ≡ b
equal a b e = (bytes_eq-Decides a b).0 e

is_equal : (a b : List ℕ) → a ≡ b → bytes_eq a b ≡ true
is_equal a b e = (bytes_eq-Decides a b).1 e

-- after an insert the value of its key is found, and those of the others are as before
pub lookup-insert : {X : Type 0} (name : List ℕ) (key : String Global) (value : X) (es : List (String Global × X))
    → lookup (has_name name) (insert_entry string_eq es key value) ≡ cond (has_name name key) (Some value) (lookup (has_name name) es)
lookup-insert name key value [] = refl
lookup-insert {X} name key value (e ∷ es) =
    let a = chars (string_bytes key) in
    let b = chars (string_bytes e.0) in
    let same : string_eq key e.0 ≡ bytes_eq a b = same_chars (string_bytes key) (string_bytes e.0) (IsUtf8-string_bytes key) (IsUtf8-string_bytes e.0) in
    by (string_eq key e.0)
    ∙ ap (λ rest. cond (string_eq key e.0) (cond (has_name name e.0) (Some value) (lookup (has_name name) es)) (cond (has_name name e.0) (Some e.1) rest))
    (lookup-insert name key value es)
    ∙ chosen (string_eq key e.0) (has_name name key) (has_name name e.0) (Some value) (Some e.1) (lookup (has_name name) es)
    (λ one. ap (bytes_eq name) (equal a b (sym same ∙ one)))
    (λ first second. same ∙ is_equal a b (sym (equal name a first) ∙ equal name b second))
  where
    by : (one : Bool) → lookup (has_name name) (cond one ((e.0, value) ∷ es) (e ∷ insert_entry string_eq es key value))
        ≡ cond one (cond (has_name name e.0) (Some value) (lookup (has_name name) es))
        (cond (has_name name e.0) (Some e.1) (lookup (has_name name) (insert_entry string_eq es key value)))
    by true = refl
    by false = refl

-- what holds where a call succeeds holds where it must
pub ok_of : {T E P : Type 0} (r : Result T E) → IsOk r → OnOk r P → P
ok_of (Ok x) h p = p
ok_of (Err e) h p = absurd (cc)

-- the values after an insert
pub values-insert : (key : String Global) (value : List ℕ) (es : List (String Global × List ℕ))
    → values_in (insert_entry string_eq es key value) ≡ with_value (chars (string_bytes key)) value (values_in es)
values-insert key value es = λ i name. lookup-insert name key value es i

-- ---- A key that is inserted and taken out again, or put back

-- the test finds what is equal to the key, which is equal to itself
pub record IsFor {K : Type 0} (eq : K → K → Bool) (key : K) (test : K → Bool) : Type 0 where
  pub same : (k : K) → test k ≡ eq key k
  pub itself : eq key key ≡ true

found_next : {K X : Type 0} (eq : K → K → Bool) (key : K) (test : K → Bool) (value : X) (e : K × X) (es : List (K × X)) → IsFor eq key test
    → lookup test (insert_entry eq es key value) ≡ Some value → (b : Bool) → eq key e.0 ≡ b
    → lookup test (cond b ((e.0, value) ∷ es) (e ∷ insert_entry eq es key value)) ≡ Some value
found_next eq key test value e es is more true h = ap (λ b. cond b (Some value) (lookup test es)) (is.same e.0 ∙ h)
found_next eq key test value e es is more false h =
    ap (λ b. cond b (Some e.1) (lookup test (insert_entry eq es key value))) (is.same e.0 ∙ h) ∙ more

pub found_again : {K X : Type 0} (eq : K → K → Bool) (key : K) (test : K → Bool) (value : X) (es : List (K × X)) → IsFor eq key test
    → lookup test (insert_entry eq es key value) ≡ Some value
found_again eq key test value [] is = ap (λ b. cond b (Some value) None) (is.same key ∙ is.itself)
found_again eq key test value (e ∷ es) is = found_next eq key test value e es is (found_again eq key test value es is) (eq key e.0) refl

taken_next : {K X : Type 0} (eq : K → K → Bool) (key : K) (test : K → Bool) (value : X) (e : K × X) (es : List (K × X)) → IsFor eq key test
    → (lookup (eq key) es ≡ None → remove_entry test (insert_entry eq es key value) ≡ es) → (b : Bool) → eq key e.0 ≡ b
    → cond b (Some e.1) (lookup (eq key) es) ≡ None → remove_entry test (cond b ((e.0, value) ∷ es) (e ∷ insert_entry eq es key value)) ≡ e ∷ es
taken_next eq key test value e es is more true h none = absurd (cc)
taken_next {K} {X} eq key test value e es is more false h none =
    ap (λ b. cond b (insert_entry eq es key value) (e ∷ remove_entry test (insert_entry eq es key value))) (is.same e.0 ∙ h)
    ∙ ap (λ (rest : List (K × X)). e ∷ rest) (more none)

pub taken_out : {K X : Type 0} (eq : K → K → Bool) (key : K) (test : K → Bool) (value : X) (es : List (K × X)) → IsFor eq key test
    → lookup (eq key) es ≡ None → remove_entry test (insert_entry eq es key value) ≡ es
taken_out eq key test value [] is none = ap (λ b. cond b [] ((key, value) ∷ [])) (is.same key ∙ is.itself)
taken_out eq key test value (e ∷ es) is none = taken_next eq key test value e es is (taken_out eq key test value es is) (eq key e.0) refl none

put_next : {K X : Type 0} (eq : K → K → Bool) (key again : K) (value before : X) (e : K × X) (es : List (K × X)) → IsFor eq key (eq again)
    → (lookup (eq key) es ≡ Some before → insert_entry eq (insert_entry eq es key value) again before ≡ es) → (b : Bool) → eq key e.0 ≡ b
    → cond b (Some e.1) (lookup (eq key) es) ≡ Some before
    → insert_entry eq (cond b ((e.0, value) ∷ es) (e ∷ insert_entry eq es key value)) again before ≡ e ∷ es
put_next {X = X} eq key again value before e es is more true h some =
    let same : e.1 ≡ before = cc in
    ap (λ b. cond b ((e.0, before) ∷ es) ((e.0, value) ∷ insert_entry eq es again before)) (is.same e.0 ∙ h)
    ∙ ap (λ (x : X). (e.0, x) ∷ es) (sym same)
put_next {K} {X} eq key again value before e es is more false h some =
    ap (λ b. cond b ((e.0, before) ∷ insert_entry eq es key value) (e ∷ insert_entry eq (insert_entry eq es key value) again before)) (is.same e.0 ∙ h)
    ∙ ap (λ (rest : List (K × X)). e ∷ rest) (more some)

pub put_back : {K X : Type 0} (eq : K → K → Bool) (key again : K) (value before : X) (es : List (K × X)) → IsFor eq key (eq again)
    → lookup (eq key) es ≡ Some before → insert_entry eq (insert_entry eq es key value) again before ≡ es
put_back eq key again value before [] is some = absurd (cc)
put_back eq key again value before (e ∷ es) is some =
    put_next eq key again value before e es is (put_back eq key again value before es is) (eq key e.0) refl some

pub of_text : (key : String Global) (text : List ℕ) → text ≡ string_bytes key → IsFor string_eq key (λ k. bytes_eq text (string_bytes k))
of_text key text e = record {
  same = λ k. ap (λ (bytes : List ℕ). bytes_eq bytes (string_bytes k)) e;
  itself = is_equal (string_bytes key) (string_bytes key) refl;
}

pub of_key : (key again : String Global) → string_bytes again ≡ string_bytes key → IsFor string_eq key (string_eq again)
of_key key again e = record {
  same = λ k. ap (λ (bytes : List ℕ). bytes_eq bytes (string_bytes k)) e;
  itself = is_equal (string_bytes key) (string_bytes key) refl;
}
