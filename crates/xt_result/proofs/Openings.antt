-- The parts of a start that is being made: sets of prefixes, attributes by their names, and new prefixes.
use Rattle.std.proofs.Common.{◌≡◌, ◌<◌, ◌-◌, ◌+◌, ◌≤◌, refl, sym, ap, ◌∙◌, ℕ, zero, suc, Bool, true, false, List, [], ◌∷◌, map, drop, take, length, None, Some, bytes_eq, string_bytes, arith}
use Rattle.std.specs.Prelude.{◌||◌, ◌&&◌, if◌then◌else◌, codes, ◌++◌}
use mathlib.Core.Logic.{inl, inr}
use Rattle.std.specs.Prelude.{slice_get}
use Rattle.std.specs.List.{list_any}
use Rattle.std.specs.Ordering.{is_eq, nat_cmp}
use Rattle.std.specs.Cmp.Lexicographic.{slice_cmp}
use Rattle.std.specs.Str.{chars, IsUtf8}
use Rattle.std.specs.declared.alloc.Global.{Global}
use Rattle.std.specs.declared.string.String.{String}
use Rattle.std.proofs.lemmas.List.{at_drop_more, at_drop_all, drop-drop, drop-map}
use Rattle.std.proofs.lemmas.Option.{slice_get_within, slice_get_cases, get_or_from_slice_get}
use Rattle.std.proofs.lemmas.Map.Text.{is_eq-slice_cmp}
use Rattle.std.proofs.lemmas.Str.{IsUtf8-string_bytes}
use Rattle.std.proofs.lemmas.Bool.Decides.{same_from_decides}
use Rattle.std.proofs.lemmas.Slice.Eq.{bytes_eq-Decides}
use Rattle.indexmap.specs.IndexMap.{insert_entry}
use Rattle.xt_text.proofs.Chars.{same_chars}
use Rattle.xt_names.specs.NamesSoFar.{text_in, texts_in, is_written}
use Rattle.spec_document.specs.Scope.{Scope}
use Rattle.spec_document.specs.Declaration.{is_there}
use Rattle.spec_result.specs.Recovery as spec
use Rattle.spec_result.specs.Recovery.{added_to, is_same_attribute}
use Rattle.spec_result.specs.Shape.{Opening, with_attributes, declaration, first_free, is_free, made_prefix}
use Rattle.xt_result.specs.declared.attributes.Given.{Given}
use Rattle.xt_result.specs.View.{given_of}

bytes_turned : (a b : List ℕ) → bytes_eq a b ≡ bytes_eq b a
bytes_turned a b =
    let there = bytes_eq-Decides a b in
    let back = bytes_eq-Decides b a in
    same_from_decides (bytes_eq a b) (bytes_eq b a) there (λ h. sym (back.0 h), λ e. back.1 (sym e))

pub turned : (a b : Bool) → (a || b) ≡ (b || a)
turned true true = refl
turned true false = refl
turned false true = refl
turned false false = refl

either_way : (a b c d : Bool) → a ≡ b → c ≡ d → (a || c) ≡ (b || d)
either_way a b c d e h = ap (λ x. x || c) e ∙ ap (λ x. b || x) h

-- a text is among keys exactly if it is among the texts that they stand for
pub among : (bs : List ℕ) (keys : List (String Global)) → IsUtf8 bs
    → list_any (λ k. is_eq (slice_cmp nat_cmp bs (string_bytes k))) keys ≡ is_written (texts_in keys) (chars bs)
among bs [] u = refl
among bs (k ∷ keys) u =
    either_way _ _ _ _
    (is_eq-slice_cmp bs (string_bytes k) ∙ same_chars bs (string_bytes k) u (IsUtf8-string_bytes k) ∙ bytes_turned (chars bs) (text_in k)) (among bs keys u)

pub default_name : (prefix : List ℕ) → prefix ≡ [] → codes "xmlns" ≡ (declaration prefix []).name
default_name prefix e = rw e refl

pub prefixed_name : (prefix made : List ℕ) → is_there prefix ≡ true → made ≡ codes "xmlns:" ++ prefix → made ≡ (declaration prefix []).name
prefixed_name prefix made t e = rw t e

-- ---- Attributes by their names

abbrev pub Entry : Type 0
Entry = (String Global × String Global) × Given

abbrev pub pair_eq : String Global × String Global → String Global × String Global → Bool
pair_eq x y = bytes_eq (string_bytes x.0) (string_bytes y.0) && bytes_eq (string_bytes x.1) (string_bytes y.1)

same_text : (x y : String Global) → bytes_eq (string_bytes x) (string_bytes y) ≡ bytes_eq (text_in x) (text_in y)
same_text x y = same_chars (string_bytes x) (string_bytes y) (IsUtf8-string_bytes x) (IsUtf8-string_bytes y)

same_pair : (k : String Global × String Global) (v : Given) (e : Entry) → pair_eq k e.0 ≡ is_same_attribute (given_of (k, v)) (given_of e)
same_pair k v e =
    ap (λ b. b && bytes_eq (string_bytes k.1) (string_bytes e.0.1)) (same_text k.0 e.0.0)
    ∙ ap (λ b. bytes_eq (text_in k.0) (text_in e.0.0) && b) (same_text k.1 e.0.1)

first_of_both : (a b : Bool) → (a && b) ≡ true → a ≡ true
first_of_both true b e = refl
first_of_both false b e = absurd (cc)

second_of_both : (a b : Bool) → (a && b) ≡ true → b ≡ true
second_of_both true b e = e
second_of_both false b e = absurd (cc)

abbrev pub with_name : Given → List ℕ → List ℕ → spec.Given
with_name v local uri = record { prefix = v.prefix; local = local; uri = uri; value = v.value }

replaced : (k : String Global × String Global) (v : Given) (e : Entry) → is_same_attribute (given_of (k, v)) (given_of e) ≡ true
    → given_of (e.0, v) ≡ given_of (k, v)
replaced k v e h =
    let uri = first_of_both (bytes_eq (text_in k.0) (text_in e.0.0)) (bytes_eq (text_in k.1) (text_in e.0.1)) h in
    let local = second_of_both (bytes_eq (text_in k.0) (text_in e.0.0)) (bytes_eq (text_in k.1) (text_in e.0.1)) h in
    ap (λ l. with_name v l (text_in e.0.0)) (sym ((bytes_eq-Decides (text_in k.1) (text_in e.0.1)).0 local))
    ∙ ap (λ u. with_name v (text_in k.1) u) (sym ((bytes_eq-Decides (text_in k.0) (text_in e.0.0)).0 uri))

choose : (r s : Bool) (a b : List Entry) (c d : List spec.Given) → r ≡ s → (s ≡ true → map given_of a ≡ c) → map given_of b ≡ d
    → map given_of (if r then a else b) ≡ (if s then c else d)
choose true true a b c d e p q = p refl
choose true false a b c d e p q = absurd (cc)
choose false true a b c d e p q = absurd (cc)
choose false false a b c d e p q = q

added : (es : List Entry) (k : String Global × String Global) (v : Given) → map given_of (insert_entry pair_eq es k v) ≡ added_to (map given_of es) (given_of (k, v))
added [] k v = refl
added (e ∷ es) k v =
    choose (pair_eq k e.0) (is_same_attribute (given_of (k, v)) (given_of e)) ((e.0, v) ∷ es) (e ∷ insert_entry pair_eq es k v)
    (given_of (k, v) ∷ map given_of es) (given_of e ∷ added_to (map given_of es) (given_of (k, v))) (same_pair k v e)
    (λ h. ap (λ g. g ∷ map given_of es) (replaced k v e h)) (ap (λ gs. given_of e ∷ gs) (added es k v))

pub added_as : (es : List Entry) (k : String Global × String Global) (v : Given) (uri local : List ℕ) → text_in k.0 ≡ uri → text_in k.1 ≡ local
    → map given_of (insert_entry pair_eq es k v) ≡ added_to (map given_of es) (with_name v local uri)
added_as es k v uri local e h =
    added es k v ∙ ap (λ u. added_to (map given_of es) (with_name v (text_in k.1) u)) e ∙ ap (λ l. added_to (map given_of es) (with_name v l uri)) h

-- ---- New prefixes

pub free_now : (scope : Scope) (uri : List ℕ) (more tried : ℕ) (b : Bool) → 0 < more → b ≡ is_free scope (made_prefix tried) uri → b ≡ true
    → made_prefix tried ≡ first_free scope uri more tried
free_now scope uri zero tried b some e h = absurd (omega arith)
free_now scope uri (suc more) tried b some e h = rw (sym e ∙ h) refl

pub free_later : (scope : Scope) (uri : List ℕ) (more less tried : ℕ) (b : Bool) → more ≡ less + 1 → b ≡ is_free scope (made_prefix tried) uri → b ≡ false
    → first_free scope uri less (tried + 1) ≡ first_free scope uri more tried
free_later scope uri zero less tried b some e h = absurd (omega arith)
free_later scope uri (suc more) less tried b some e h =
    let same : less ≡ more = omega (arith, some) in
    ap (λ n. first_free scope uri n (tried + 1)) same ∙ rw (sym e ∙ h) refl

pub free_last : (scope : Scope) (uri : List ℕ) (most tried : ℕ) → tried ≡ most → made_prefix most ≡ first_free scope uri (most - tried) tried
free_last scope uri most tried e =
    let none : most - tried ≡ 0 = omega (arith, e) in
    rw none (ap made_prefix (sym e))

-- ---- Attributes one by one

drop_cases : (xs : List spec.Given) (o : Opening) → with_attributes (drop 1 xs) (with_attributes (take 1 xs) o) ≡ with_attributes xs o
drop_cases [] o = refl
drop_cases (x ∷ xs) o = refl

pub one_attribute : (xs : List spec.Given) (index : ℕ) (o : Opening)
    → with_attributes (drop (index + 1) xs) (with_attributes (take 1 (drop index xs)) o) ≡ with_attributes (drop index xs) o
one_attribute xs index o =
    ap (λ ys. with_attributes ys (with_attributes (take 1 (drop index xs)) o)) (sym (drop-drop 1 index xs)) ∙ drop_cases (drop index xs) o

pub mapped_length : (es : List Entry) (xs : List spec.Given) → map given_of es ≡ xs → length xs ≡ length es
mapped_length es xs e = ap length (sym e) ∙ all es
  where
    all : (es : List Entry) → length (map given_of es) ≡ length es
    all [] = refl
    all (e ∷ es) = ap suc (all es)

pub one_there : (es : List Entry) (xs : List spec.Given) (index : ℕ) (e : Entry) → map given_of es ≡ xs → slice_get es index ≡ Some e
    → take 1 (drop index xs) ≡ given_of e ∷ []
one_there es xs index e same at =
    ap (λ ys. take 1 (drop index ys)) (sym same) ∙ ap (take 1) (drop-map given_of index es)
    ∙ at_drop_more (λ ys. take 1 (map given_of ys)) es index e (slice_get_within es index e at)
    ∙ ap (λ x. given_of x ∷ []) (get_or_from_slice_get es index e e at)

past : (es : List Entry) (index : ℕ) → slice_get es index ≡ None → length es ≤ index
past es index none =
    elim (slice_get_cases es index).1 [
      | inl found ↦ absurd (cc)
      | inr beyond ↦ beyond.0
    ]

pub none_there : (es : List Entry) (xs : List spec.Given) (index : ℕ) → map given_of es ≡ xs → slice_get es index ≡ None → take 1 (drop index xs) ≡ []
none_there es xs index same none =
    ap (λ ys. take 1 (drop index ys)) (sym same) ∙ ap (take 1) (drop-map given_of index es)
    ∙ at_drop_all (λ ys. take 1 (map given_of ys)) es index (past es index none)
