-- The modules in which faults between elements stand.
use Rattle.std.proofs.Common.{◌≡◌, ℕ, ◌+◌, ◌<◌, Bool, true, false, List, [], ◌∷◌, ◌++◌, map, length, take, get_or, Option, None, Some, bytes_eq, string_bytes, refl, sym, ap, subst, ◌∙◌}
use Rattle.std.specs.Prelude.{◌||◌, if◌then◌else◌}
use Rattle.std.specs.List.{filter, list_any}
use Rattle.std.specs.Str.{chars, IsUtf8}
use Rattle.std.specs.declared.alloc.Global.{Global}
use Rattle.std.specs.declared.string.String.{String}
use Rattle.std.proofs.lemmas.List.{map-append, take_more}
use Rattle.std.proofs.lemmas.List.Elements.{filter-append}
use Rattle.std.proofs.lemmas.Str.{IsUtf8-string_bytes}
use Rattle.indexmap.specs.IndexSet.{insert_key}
use Rattle.xt_text.proofs.Chars.{same_chars}
use Rattle.spec_compile.specs.Scoping as scoping
use Rattle.spec_compile.specs.Sheet.{first_in, is_in}
use Rattle.xt_import.specs.View.{is_name}
use Rattle.xt_scoping.specs.View.{violation_in}
use Rattle.xt_scoping.specs.declared.violation.Violation.{Violation}
use Rattle.xt_compile.specs.Faulty.{AreFaulty}
use Rattle.xt_compile.proofs.Stocked.{tells_names, turned}

both_false : (b c : Bool) → (b || c) ≡ false → (b ≡ false) × (c ≡ false)
both_false true c h = absurd (cc)
both_false false c h = (refl, h)

-- ---- A name is added

any_append : (p : String Global → Bool) (ks : List (String Global)) (k : String Global) → list_any p (ks ++ k ∷ []) ≡ false → (list_any p ks ≡ false) × (p k ≡ false)
any_append p [] k h = (refl, (both_false (p k) false h).0)
any_append p (j ∷ js) k h =
    let parts = both_false (p j) (list_any p (js ++ k ∷ [])) h in
    let more = any_append p js k parts.1 in
    ((λ i. parts.0 i || more.0 i), more.1)

one_equal : (same is_first is rest first_rest : Bool) → (same ≡ true → is_first ≡ is) → (rest ≡ true → first_rest ≡ false → is ≡ false) → (same || rest) ≡ true
    → (is_first || first_rest) ≡ false → is ≡ false
one_equal true true is rest first_rest one more h none = absurd (cc)
one_equal true false is rest first_rest one more h none = sym (one refl)
one_equal false true is rest first_rest one more h none = absurd (cc)
one_equal false false is rest first_rest one more h none = more h none

none_equal : (q : List ℕ) (k : String Global) (ks : List (String Global)) → list_any (λ (j : String Global). bytes_eq (string_bytes k) (string_bytes j)) ks ≡ true
    → list_any (is_name q) ks ≡ false → is_name q k ≡ false
none_equal q k [] h none = absurd (cc)
none_equal q k (j ∷ js) h none =
    one_equal (bytes_eq (string_bytes k) (string_bytes j)) (is_name q j) (is_name q k) (list_any (λ (x : String Global). bytes_eq (string_bytes k) (string_bytes x)) js)
    (list_any (is_name q) js) ((tells_names q).same k j) (none_equal q k js) h none

inserted_none : (q : List ℕ) (ks : List (String Global)) (k : String Global) (b : Bool) → list_any (λ (j : String Global). bytes_eq (string_bytes k) (string_bytes j)) ks ≡ b
    → list_any (is_name q) (if b then ks else ks ++ k ∷ []) ≡ false → (list_any (is_name q) ks ≡ false) × (is_name q k ≡ false)
inserted_none q ks k true is h = (h, none_equal q k ks is h)
inserted_none q ks k false is h = any_append (is_name q) ks k h

pub name_added : (q name : List ℕ) (ks new : List (String Global)) (k : String Global) → chars (string_bytes k) ≡ name
    → new ≡ insert_key (λ (i j : String Global). bytes_eq (string_bytes i) (string_bytes j)) ks k → list_any (is_name q) new ≡ false
    → (list_any (is_name q) ks ≡ false) × (bytes_eq name q ≡ false)
name_added q name ks new k is added none =
    let parts = inserted_none q ks k (list_any (λ (j : String Global). bytes_eq (string_bytes k) (string_bytes j)) ks) refl (ap (list_any (is_name q)) (sym added) ∙ none) in
    (parts.0, turned name q ∙ ap (bytes_eq q) (sym is) ∙ parts.1)

-- ---- A fault is added

none_more : (p : scoping.Violation → Bool) (before : List scoping.Violation) (v : scoping.Violation) → filter p before ≡ [] → p v ≡ false → filter p (before ++ v ∷ []) ≡ []
none_more p before v none not = filter-append p before (v ∷ []) ∙ (λ i. none i ++ (if not i then v ∷ [] else []))

pub no_module : (before : List scoping.Violation) (v : scoping.Violation) (names : List (String Global)) → v.place.module_name ≡ None → AreFaulty before names
    → AreFaulty (before ++ v ∷ []) names
no_module before v names none faulty = record { so = λ q not. none_more (is_in q) before v (faulty.so q not) (not_in (v.place.module_name) q none) }
  where
    not_in : (o : Option (List ℕ)) (q : List ℕ) → o ≡ None → elim o [ None ↦ false | Some other ↦ bytes_eq other q ] ≡ false
    not_in None q e = refl
    not_in (Some other) q e = absurd (cc)

pub its_module : (before : List scoping.Violation) (v : scoping.Violation) (name : List ℕ) (names new : List (String Global)) → v.place.module_name ≡ Some name
    → ((q : List ℕ) → list_any (is_name q) new ≡ false → (list_any (is_name q) names ≡ false) × (bytes_eq name q ≡ false)) → AreFaulty before names → AreFaulty (before ++ v ∷ []) new
its_module before v name names new is added faulty = record {
  so = λ q not.
      none_more (is_in q) before v (faulty.so q (added q not).0)
      (ap (λ (o : Option (List ℕ)). elim o [ None ↦ false | Some other ↦ bytes_eq other q ]) is ∙ (added q not).1);
}

pub none_faulty : (names : List (String Global)) → AreFaulty [] names
none_faulty names = record { so = λ q not. refl }

pub next_faulty : (vs : List Violation) (i : ℕ) (v : Violation) (names : List (String Global)) → i < length vs → v ≡ get_or vs i v
    → AreFaulty (map violation_in (take i vs) ++ violation_in v ∷ []) names → AreFaulty (map violation_in (take (i + 1) vs)) names
next_faulty vs i v names h e faulty =
    subst (λ (xs : List scoping.Violation). AreFaulty xs names)
    (sym (ap (map violation_in) (take_more vs i v h ∙ ap (λ (x : Violation). take i vs ++ x ∷ []) (sym e)) ∙ map-append violation_in (take i vs) (v ∷ []))) faulty

-- ---- A name is looked up

pub among_characters : (text : List ℕ) → IsUtf8 text → (ks : List (String Global)) → list_any (λ key. bytes_eq text (string_bytes key)) ks ≡ list_any (is_name (chars text)) ks
among_characters text u [] = refl
among_characters text u (k ∷ ks) =
    (λ i. same_chars text (string_bytes k) u (IsUtf8-string_bytes k) i || among_characters text u ks i)

pub none_there : (vs : List scoping.Violation) (name : List ℕ) (names : List (String Global)) → list_any (is_name name) names ≡ false → AreFaulty vs names
    → None ≡ first_in (filter (is_in name) vs)
none_there vs name names not faulty = sym (ap first_in (faulty.so name not))
