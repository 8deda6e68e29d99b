-- What is found in a map after an insertion, by a test that tells equal keys not apart.
use Rattle.std.proofs.Common.{◌≡◌, Bool, true, false, cond, List, [], ◌∷◌, Option, None, Some, refl}
use Rattle.std.specs.Prelude.{if◌then◌else◌}
use Rattle.std.specs.Map.{lookup}
use Rattle.indexmap.specs.IndexMap.{insert_entry}

-- a test that holds of one key, as far as keys are told apart
pub record TellsKeys {K : Type 0} (eq : K → K → Bool) (test : K → Bool) : Type 0 where
  pub same : (j k : K) → eq j k ≡ true → test k ≡ test j
  pub one : (j k : K) → test j ≡ true → test k ≡ true → eq j k ≡ true

first_if : {X : Type 0} (b : Bool) (x : X) (old new : Option X) → (b ≡ false → new ≡ old) → cond b (Some x) new ≡ (if b then Some x else old)
first_if true x old new h = refl
first_if false x old new h = h refl

pub lookup_inserted : {K X : Type 0} {eq : K → K → Bool} {test : K → Bool} → TellsKeys eq test → (es : List (K × X)) (k : K) (v : X)
    → lookup test (insert_entry eq es k v) ≡ (if test k then Some v else lookup test es)
lookup_inserted {K} {X} {eq} {test} tells [] k v = first_if (test k) v None None (λ h. refl)
lookup_inserted {K} {X} {eq} {test} tells (e ∷ es) k v = at (eq k e.0) refl (lookup_inserted tells es k v)
  where
    replaced : (b c : Bool) → b ≡ c → cond b (Some v) (lookup test es) ≡ (if c then Some v else cond b (Some e.1) (lookup test es))
    replaced true true h = refl
    replaced false false h = refl
    replaced true false h = absurd (cc)
    replaced false true h = absurd (cc)

    kept : (b c : Bool) (more : Option X) → (c ≡ true → b ≡ false) → more ≡ (if c then Some v else lookup test es)
        → cond b (Some e.1) more ≡ (if c then Some v else cond b (Some e.1) (lookup test es))
    kept true true more other h = let n = other refl in absurd (cc)
    kept true false more other h = refl
    kept false true more other h = h
    kept false false more other h = h

    apart : eq k e.0 ≡ false → test k ≡ true → (b : Bool) → test e.0 ≡ b → b ≡ false
    apart n t true h = let y = tells.one k e.0 t h in absurd (cc)
    apart n t false h = refl

    at : (b : Bool) → eq k e.0 ≡ b → lookup test (insert_entry eq es k v) ≡ (if test k then Some v else lookup test es)
        → lookup test (if b then (e.0, v) ∷ es else e ∷ insert_entry eq es k v) ≡ (if test k then Some v else lookup test (e ∷ es))
    at true h more = replaced (test e.0) (test k) (tells.same k e.0 h)
    at false h more = kept (test e.0) (test k) (lookup test (insert_entry eq es k v)) (λ t. apart h t (test e.0) refl) more
