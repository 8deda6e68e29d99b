-- The steps of what is read as a pattern are along the axes of children and of attributes.
use Rattle.std.proofs.Common.{◌≡◌, ℕ, Bool, true, false, List, Option, None, Some, Ok, refl}
use Rattle.std.specs.Prelude.{◌&&◌}
use Rattle.std.specs.List.{list_all}
use Rattle.spec_document.specs.Scope.{Scope}
use Rattle.spec_expression.specs.Token.{Token, tokens}
use Rattle.spec_expression.specs.Syntax.{Step}
use Rattle.spec_stylesheet.specs.declared.pattern.Separator.{Separator}
use Rattle.spec_stylesheet.specs.Pattern.{PatternStep, Alternative, Pattern}
use Rattle.spec_static.specs.PatternGrammar.{is_pattern_axis, ReadsStepPattern, on_axis, on_attributes, on_children, ReadsFurtherSteps, no_further, child, descendant, ReadsRelativePattern, steps, ReadsAlternative, at_root, from_root, below_root, anywhere, from_head, ReadsOthers, no_other, other, ReadsAlternatives, alternatives, Gives, Uncut, ParsesPattern}
use Rattle.spec_matching.specs.Given.{is_along, are_along}

both : (a b : Bool) → a ≡ true → b ≡ true → (a && b) ≡ true
both true b h g = g
both false b h g = absurd (cc)

abbrev AllAlong : List PatternStep → Type 0
AllAlong ss = list_all (λ s. is_pattern_axis s.step.axis) ss ≡ true

step_along : {scope : Scope} {ts us : List Token} {s : Step} → ReadsStepPattern scope ts s us → is_pattern_axis s.axis ≡ true
step_along (on_axis e good t ps) = good
step_along (on_attributes t ps) = refl
step_along (on_children t ps) = refl

further_along : {scope : Scope} {ts us : List Token} {ss : List PatternStep} → ReadsFurtherSteps scope ts ss us → AllAlong ss
further_along no_further = refl
further_along (child {s = s} {ss = ss} h more) =
    both (is_pattern_axis s.axis) (list_all (λ t. is_pattern_axis t.step.axis) ss) (step_along h) (further_along more)
further_along (descendant {s = s} {ss = ss} h more) =
    both (is_pattern_axis s.axis) (list_all (λ t. is_pattern_axis t.step.axis) ss) (step_along h) (further_along more)

relative_along : {scope : Scope} {before : Separator} {ts us : List Token} {ss : List PatternStep} → ReadsRelativePattern scope before ts ss us → AllAlong ss
relative_along (steps {s = s} {ss = ss} h more) =
    both (is_pattern_axis s.axis) (list_all (λ t. is_pattern_axis t.step.axis) ss) (step_along h) (further_along more)

alternative_along : {scope : Scope} {ts us : List Token} {a : Alternative} → ReadsAlternative scope ts a us → is_along a ≡ true
alternative_along at_root = refl
alternative_along (from_root h) = relative_along h
alternative_along (below_root h) = relative_along h
alternative_along (anywhere h) = relative_along h
alternative_along (from_head h more) = further_along more

others_along : {scope : Scope} {ts us : List Token} {alts : List Alternative} → ReadsOthers scope ts alts us → list_all is_along alts ≡ true
others_along no_other = refl
others_along (other {a = a} {others = more} h rest) = both (is_along a) (list_all is_along more) (alternative_along h) (others_along rest)

alternatives_along : {scope : Scope} {ts us : List Token} {alts : List Alternative} → ReadsAlternatives scope ts alts us → list_all is_along alts ≡ true
alternatives_along (alternatives {a = a} {others = more} h rest) = both (is_along a) (list_all is_along more) (alternative_along h) (others_along rest)

cut_along : (scope : Scope) (cut : Option (List Token)) (p : Pattern)
    → (elim cut as (λ _. Type 0) [ None ↦ Uncut (Ok p) | Some ts ↦ Gives scope ts (Ok p) ]) → are_along p ≡ true
cut_along scope None p h = absurd h
cut_along scope (Some ts) p h = alternatives_along h.0.pattern

pub parsed_along : (scope : Scope) (text : List ℕ) (pattern : Pattern) → ParsesPattern scope text (Ok pattern) → are_along pattern ≡ true
parsed_along scope text pattern h = cut_along scope (tokens text) pattern h
