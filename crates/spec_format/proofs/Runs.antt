-- What a text is cut into, with one character more in front.
use Rattle.std.proofs.Common.{◌≡◌, ℕ, Bool, true, false, cond, not, ◌||◌, List, [], ◌∷◌, drop, refl, ap, ◌∙◌}
use Rattle.std.proofs.lemmas.Bool.{and_parts, and_from}
use Rattle.std.specs.List.{list_all, list_any}
use Rattle.spec_format.specs.declared.Part.{Part}
use Rattle.spec_format.specs.Format.{Cut, cut, is_alphanumeric, is_empty, is_token, is_between, joined, with_alphanumeric, with_other}

-- the text is cut into its runs
pub record AreRuns (whole : Cut) (text : List ℕ) : Type 0 where
  pub all : joined whole ≡ text
  pub tokens : list_all (λ part. is_token part.token) whole.parts ≡ true
  pub between : list_all (λ part. is_between part.before) whole.parts ≡ true
  pub behind : is_between whole.behind ≡ true
  pub apart : list_all (λ part. not (is_empty part.before)) (drop 1 whole.parts) ≡ true

abbrev cut_of : List (Part (List ℕ)) → List ℕ → Cut
cut_of parts behind = record { parts = parts; behind = behind }

module _ (c : ℕ) (text behind : List ℕ) where
  letter_behind :
      (before token : List ℕ) (parts : List (Part (List ℕ))) → is_alphanumeric c ≡ true
      → AreRuns (cut_of (record { before = before; token = token } ∷ parts) behind) text
      → AreRuns (cut_of (with_alphanumeric c (record { before = before; token = token } ∷ parts)) behind) (c ∷ text)
  letter_behind [] token parts letter runs =
      let tokens = and_parts (is_token token) _ runs.tokens in
      let letters = (and_parts (not (is_empty token)) (list_all is_alphanumeric token) tokens.0).1 in
      record {
        all = ap (λ t. c ∷ t) runs.all;
        tokens = and_from _ _ (and_from _ _ letter letters) tokens.1;
        between = runs.between;
        behind = runs.behind;
        apart = runs.apart;
      }
  letter_behind (b ∷ before) token parts letter runs = record {
    all = ap (λ t. c ∷ t) runs.all;
    tokens = and_from _ _ (and_from _ _ letter refl) runs.tokens;
    between = runs.between;
    behind = runs.behind;
    apart = runs.apart;
  }

  with_letter :
      (parts : List (Part (List ℕ))) → is_alphanumeric c ≡ true → AreRuns (cut_of parts behind) text
      → AreRuns (cut_of (with_alphanumeric c parts) behind) (c ∷ text)
  with_letter [] letter runs = record {
    all = ap (λ t. c ∷ t) runs.all;
    tokens = and_from _ _ (and_from _ _ letter refl) refl;
    between = refl;
    behind = runs.behind;
    apart = refl;
  }
  with_letter (part ∷ parts) letter runs = letter_behind part.before part.token parts letter runs

  with_no_letter :
      (parts : List (Part (List ℕ))) → is_alphanumeric c ≡ false → AreRuns (cut_of parts behind) text
      → AreRuns (with_other c parts behind) (c ∷ text)
  with_no_letter [] other runs = record {
    all = ap (λ t. c ∷ t) runs.all;
    tokens = refl;
    between = refl;
    behind = ap (λ b. not (b || list_any is_alphanumeric behind)) other ∙ runs.behind;
    apart = refl;
  }
  with_no_letter (part ∷ parts) other runs =
      let between = and_parts (is_between part.before) _ runs.between in
      record {
        all = ap (λ t. c ∷ t) runs.all;
        tokens = runs.tokens;
        between = and_from _ _ (ap (λ b. not (b || list_any is_alphanumeric part.before)) other ∙ between.0) between.1;
        behind = runs.behind;
        apart = runs.apart;
      }

in_front :
    (b : Bool) (c : ℕ) (text : List ℕ) (rest : Cut) → is_alphanumeric c ≡ b → AreRuns rest text
    → AreRuns (cond b (cut_of (with_alphanumeric c rest.parts) rest.behind) (with_other c rest.parts rest.behind)) (c ∷ text)
in_front true c text rest letter runs = with_letter c text rest.behind rest.parts letter runs
in_front false c text rest other runs = with_no_letter c text rest.behind rest.parts other runs

pub are_runs : (text : List ℕ) → AreRuns (cut text) text
are_runs [] = record { all = refl; tokens = refl; between = refl; behind = refl; apart = refl }
are_runs (c ∷ cs) = in_front (is_alphanumeric c) c cs (cut cs) refl (are_runs cs)
