-- Of a rule that matches no node which is called so nothing is asked, so it is all one whether it is tried.
use Rattle.std.proofs.Common.{◌≡◌, ℕ, suc, ◌+◌, Bool, true, false, List, [], ◌∷◌, reverse, Option, Some, refl, sym, ap, ◌∙◌, arith}
use Rattle.std.specs.Prelude.{◌&&◌, slice_get, if◌then◌else◌}
use Rattle.std.specs.List.{list_any}
use Rattle.std.proofs.lemmas.Bool.{or_parts}
use Rattle.spec_document.specs.Name.{Expanded}
use Rattle.spec_document.specs.declared.kind.Kind.{Kind}
use Rattle.spec_document.specs.declared.kind.Kind.TheVariants as kind
use Rattle.spec_expression.specs.Syntax.{Step}
use Rattle.spec_stylesheet.specs.declared.pattern.Start.{Start}
use Rattle.spec_stylesheet.specs.declared.pattern.Start.TheVariants.{Anywhere, Root, Id, Key}
use Rattle.spec_stylesheet.specs.Pattern.{PatternStep, Alternative}
use Rattle.spec_stylesheet.specs.Sheet.{Rule}
use Rattle.spec_meaning.specs.Context.{Context}
use Rattle.spec_meaning.specs.Question.{Answer, Candidates, Named}
use Rattle.spec_meaning.specs.Program.{Program, Give, then}
use Rattle.spec_transform.specs.Choice.{first_that_matches, is_candidate, is_chosen, same_mode}
use Rattle.spec_transform.specs.Match.{holds_above, is_free, is_root, matches_one, matches_steps, passes_predicates, passes_step, starts_at}
use Rattle.xt_match.specs.CalledIn.{CalledIn}
use Rattle.xt_match.specs.Fitting.{alternative_fits, first_among, is_one_chosen, is_root_kind, last_fits, may_match, numbers_from, start_fits, step_fits}

abbrev answer : {N : Type 0} → CalledIn → List ℕ → Answer N
answer called written = Named called.kind called.name written

root_is : (N : Type 0) (k : Kind) (name : Option Expanded) (written : List ℕ) → is_root {N = N} (Named k name written) ≡ is_root_kind k
root_is N kind.Root name written = refl
root_is N kind.Element name written = refl
root_is N kind.Attribute name written = refl
root_is N kind.Namespace name written = refl
root_is N kind.Text name written = refl
root_is N kind.Comment name written = refl
root_is N kind.Instruction name written = refl

module _ {N : Type 0} (same : N → N → Bool) (called : CalledIn) (written : List ℕ) (n : N) where
  no_start : (start : Start (List ℕ) Expanded) → start_fits called start ≡ false → starts_at same start n (answer called written) ≡ Give false
  no_start Anywhere h = absurd (cc)
  no_start Root h = ap (λ (b : Bool). Give b) (root_is N called.kind called.name written ∙ h)
  no_start (Id text) h = refl
  no_start (Key name value) h = absurd (cc)

  no_step : (c : Context N) (s : Step) → step_fits called s ≡ false → passes_step same c s n (answer called written) ≡ Give false
  no_step c s h = ap (λ b. if b then passes_predicates same c s n else Give false) h

  no_steps : (c : Context N) (start : Start (List ℕ) Expanded) (steps : List PatternStep) → last_fits called start steps ≡ false
      → matches_steps same c start steps n (answer called written) ≡ Give false
  unfolding then
  no_steps c start [] h = no_start start h
  no_steps c start (s ∷ before) h =
      ap (λ (p : Program N Bool). (then) p (λ b. if b then holds_above (is_free start before) (matches_steps same c start before) s.separator n else Give false))
      (no_step c s.step h)

  no_one : (c : Context N) (alternatives : List Alternative) → list_any (alternative_fits called) alternatives ≡ false → matches_one same c alternatives n (answer called written) ≡ Give false
  unfolding then
  no_one c [] h = refl
  no_one c (a ∷ alternatives) h =
      let parts = or_parts (alternative_fits called a) (list_any (alternative_fits called) alternatives) h in
      ap (λ (p : Program N Bool). (then) p (λ b. if b then Give true else matches_one same c alternatives n (answer called written)))
      (no_steps c a.start (reverse a.steps) parts.0) ∙ no_one c alternatives parts.1

  module _ (c : Rule → Context N) (candidates : Candidates) where
    skipped : (rule : Rule) → may_match called rule ≡ false → is_chosen same c called.mode candidates rule n (answer called written) ≡ Give false
    skipped rule h = by (same_mode called.mode rule.mode) (is_candidate candidates rule.precedence) h
      where
        tried : Program N Bool
        tried = matches_one same (c rule) rule.pattern.alternatives n (answer called written)

        by : (x y : Bool) → (x && list_any (alternative_fits called) rule.pattern.alternatives) ≡ false → (if x && y then tried else Give false) ≡ Give false
        by false y h = refl
        by true false h = refl
        by true true h = no_one (c rule) rule.pattern.alternatives h

    abbrev one_chosen : Option Rule → Program N Bool
    one_chosen o = is_one_chosen same c called.mode candidates o n (answer called written)

    abbrev among : List Rule → List ℕ → Program N (Option ℕ)
    among all numbers = first_among same c called.mode candidates all numbers n (answer called written)

    abbrev from : ℕ → List Rule → Program N (Option ℕ)
    from number rules = first_that_matches same c called.mode candidates number rules n (answer called written)

    turn : (all : List Rule) (number : ℕ) (rule : Rule) (rules : List Rule) → slice_get all number ≡ Some rule
        → among all (numbers_from called (number + 1) rules) ≡ from (number + 1) rules
        → among all (numbers_from called number (rule ∷ rules)) ≡ from number (rule ∷ rules)
    unfolding then
    turn all number rule rules here later = by (may_match called rule) refl
      where
        by : (b : Bool) → may_match called rule ≡ b
            → among all (if b then number ∷ numbers_from called (number + 1) rules else numbers_from called (number + 1) rules) ≡ from number (rule ∷ rules)
        by true e = λ i. (then) (one_chosen (here i)) (λ b. if b then Give (Some number) else later i)
        by false e = later ∙ sym (ap (λ (p : Program N Bool). (then) p (λ b. if b then Give (Some number) else from (number + 1) rules)) (skipped rule e))

    among_from : (all rules : List Rule) (number : ℕ) → ((k : ℕ) → slice_get all (number + k) ≡ slice_get rules k)
        → among all (numbers_from called number rules) ≡ from number rules
    among_from all [] number at = refl
    among_from all (rule ∷ rules) number at =
        let first : number ≡ number + 0 = omega arith in
        turn all number rule rules (ap (slice_get all) first ∙ at 0) (among_from all rules (number + 1) (λ k. further k (omega arith) ∙ at (suc k)))
      where
        further : (k : ℕ) → number + 1 + k ≡ number + suc k → slice_get all (number + 1 + k) ≡ slice_get all (number + suc k)
        further k e = ap (slice_get all) e

    pub among_all : (all : List Rule) → among all (numbers_from called 0 all) ≡ from 0 all
    among_all all = among_from all all 0 (λ k. let plain : 0 + k ≡ k = omega arith in ap (slice_get all) plain)

-- the first of the rules that may match is the first of all
pub table_so : {N : Type 0} (same : N → N → Bool) (c : Rule → Context N) (called : CalledIn) (candidates : Candidates) (all : List Rule) (n : N)
    {mode : Option Expanded} {told : Answer N} {numbers : List ℕ} (written : List ℕ)
    → called.mode ≡ mode → told ≡ Named called.kind called.name written → numbers ≡ numbers_from called 0 all
    → first_among same c mode candidates all numbers n told ≡ first_that_matches same c mode candidates 0 all n told
table_so same c called candidates all n written m t e =
    (λ i. first_among same c (sym m i) candidates all (e i) n (t i))
    ∙ among_all same called written n c candidates all
    ∙ (λ i. first_that_matches same c (m i) candidates 0 all n (sym t i))
