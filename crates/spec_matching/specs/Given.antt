-- That a node is given by a pattern, read as an expression, from one of its ancestors-or-self as context (XSLT 1.0, section 5.2).
use Rattle.std.specs.Prelude.{◌≡◌, Bool, true, List, [], ◌∷◌}
use Rattle.std.specs.List.{list_all}
use Rattle.spec_document.specs.declared.axis.Axis.TheVariants as axis
use Rattle.spec_stylesheet.specs.Pattern.{PatternStep, Alternative, Pattern}
use Rattle.spec_static.specs.PatternGrammar.{is_pattern_axis}
use Rattle.spec_meaning.specs.Question.{Question, Answer}
use Rattle.spec_meaning.specs.Program.{Supply, Gives, outcome_of}
use Rattle.spec_meaning.specs.Context.{Context}
use Rattle.spec_matching.specs.Asked.{is_among, nodes_on, AreAnswered}
use Rattle.spec_matching.specs.AsExpression.{nodes_given}

pub data IsOneOf {A : Type 0} (x : A) : List A → Type 0 where
  at_the_front : {xs : List A} → IsOneOf x (x ∷ xs)
  further_on : {y : A} {ys : List A} → IsOneOf x ys → IsOneOf x (y ∷ ys)

-- one of the ancestors-or-self of a node, from which one of the alternatives gives the node
pub record IsGivenFromAbove {N : Type 0} (same : N → N → Bool) (ask : Question N → Answer N) (supply : Supply N) (c : Context N) (pattern : Pattern) (n : N)
    : Type 0 where
  pub above : N
  pub is_above : is_among same above (nodes_on ask axis.AncestorOrSelf n) ≡ true
  pub alternative : Alternative
  pub is_one : IsOneOf alternative pattern.alternatives
  pub nodes : List N
  pub gives : outcome_of ask supply (nodes_given c alternative above) ≡ Gives nodes
  pub has : is_among same n nodes ≡ true

-- ---- What is asked of a pattern: that its steps are along the axes of children and of attributes, as the grammar has it, and that its predicates
-- need nothing that is lacking

pub record IsStep {N : Type 0} (ask : Question N → Answer N) (supply : Supply N) (c : Context N) (s : PatternStep) : Type 0 where
  pub along : is_pattern_axis s.step.axis ≡ true
  pub answered : AreAnswered ask supply c s.step.predicates

abbrev pub AreSteps : {N : Type 0} → (Question N → Answer N) → Supply N → Context N → List PatternStep → Type 0
AreSteps ask supply c [] = Unit {0}
AreSteps ask supply c (s ∷ more) = IsStep ask supply c s × AreSteps ask supply c more

abbrev pub AreAlternatives : {N : Type 0} → (Question N → Answer N) → Supply N → Context N → List Alternative → Type 0
AreAlternatives ask supply c [] = Unit {0}
AreAlternatives ask supply c (a ∷ more) = AreSteps ask supply c a.steps × AreAlternatives ask supply c more

-- the first of these, as a test: which the grammar of patterns gives to each
abbrev pub is_along : Alternative → Bool
is_along a = list_all (λ s. is_pattern_axis s.step.axis) a.steps

abbrev pub are_along : Pattern → Bool
are_along pattern = list_all is_along pattern.alternatives
