-- Whether an expression, a pattern or a value template has a part of some kind: a call that names no function, a variable, a call of
-- current() or key(); and which variables stand in it.
use Rattle.std.specs.Prelude.{ℕ, ◌+◌, Bool, true, false, ◌&&◌, ◌||◌, List, [], ◌∷◌, ◌++◌, bytes_eq, is_some, not}
use Rattle.std.specs.List.{list_any, flat_map}
use Rattle.spec_document.specs.Name.{Expanded}
use Rattle.spec_expression.specs.Syntax.{Expr, number, literal, variable, call, chain, negation, filter, root, here, path, Exprs, no_exprs, expr, Links, no_links, link, Steps, no_steps, step}
use Rattle.spec_stylesheet.specs.declared.pattern.Start.{Start}
use Rattle.spec_stylesheet.specs.declared.pattern.Start.TheVariants.{Anywhere, Root, Id, Key}
use Rattle.spec_stylesheet.specs.Pattern.{Alternative, Pattern}
use Rattle.spec_stylesheet.specs.ValueTemplate.{Avt, AvtPart, Text, Value}
use Rattle.spec_meaning.specs.Function.{function_of}

abbrev pub count_of : Exprs → ℕ
count_of no_exprs = 0
count_of (expr e es) = 1 + count_of es

-- the parts that are asked of, by themselves: a variable, and a call with its name and how many arguments it has
pub record Test : Type 0 where
  pub variable : Bool
  pub call : Expanded → ℕ → Bool

abbrev mutual
  pub has : Test → Expr → Bool
  has t (number n) = false
  has t (literal text) = false
  has t (variable name) = t.variable
  has t (call name arguments) = t.call name (count_of arguments) || has_one t arguments
  has t (chain e links) = has t e || has_link t links
  has t (negation signs e) = has t e
  has t (filter e predicates) = has t e || has_one t predicates
  has t root = false
  has t here = false
  has t (path e steps) = has t e || has_step t steps

  pub has_one : Test → Exprs → Bool
  has_one t no_exprs = false
  has_one t (expr e es) = has t e || has_one t es

  pub has_link : Test → Links → Bool
  has_link t no_links = false
  has_link t (link operator e more) = has t e || has_link t more

  pub has_step : Test → Steps → Bool
  has_step t no_steps = false
  has_step t (step axis test predicates more) = has_one t predicates || has_step t more

abbrev pub has_in_alternative : Test → Alternative → Bool
has_in_alternative t a = list_any (λ s. has_one t s.step.predicates) a.steps

abbrev pub has_in_pattern : Test → Pattern → Bool
has_in_pattern t p = list_any (has_in_alternative t) p.alternatives

abbrev pub has_in_part : Test → AvtPart → Bool
has_in_part t (Text text) = false
has_in_part t (Value e) = has t e

abbrev pub has_in_template : Test → Avt → Bool
has_in_template t a = list_any (has_in_part t) a.parts

-- ---- The variables that stand in one

abbrev mutual
  pub variables_in : Expr → List Expanded
  variables_in (number n) = []
  variables_in (literal text) = []
  variables_in (variable name) = name ∷ []
  variables_in (call name arguments) = variables_in_all arguments
  variables_in (chain e links) = variables_in e ++ variables_in_links links
  variables_in (negation signs e) = variables_in e
  variables_in (filter e predicates) = variables_in e ++ variables_in_all predicates
  variables_in root = []
  variables_in here = []
  variables_in (path e steps) = variables_in e ++ variables_in_steps steps

  pub variables_in_all : Exprs → List Expanded
  variables_in_all no_exprs = []
  variables_in_all (expr e es) = variables_in e ++ variables_in_all es

  pub variables_in_links : Links → List Expanded
  variables_in_links no_links = []
  variables_in_links (link operator e more) = variables_in e ++ variables_in_links more

  pub variables_in_steps : Steps → List Expanded
  variables_in_steps no_steps = []
  variables_in_steps (step axis test predicates more) = variables_in_all predicates ++ variables_in_steps more

abbrev pub variables_in_alternative : Alternative → List Expanded
variables_in_alternative a = flat_map (λ s. variables_in_all s.step.predicates) a.steps

abbrev pub variables_in_pattern : Pattern → List Expanded
variables_in_pattern p = flat_map variables_in_alternative p.alternatives

abbrev pub variables_in_part : AvtPart → List Expanded
variables_in_part (Text text) = []
variables_in_part (Value e) = variables_in e

abbrev pub variables_in_template : Avt → List Expanded
variables_in_template a = flat_map variables_in_part a.parts

-- ---- What is asked

abbrev pub unknown_calls : Test
unknown_calls = record { variable = false; call = λ name arguments. not (is_some (function_of name arguments)) }

abbrev pub variables : Test
variables = record { variable = true; call = λ name arguments. false }

abbrev pub calls_of : List ℕ → Test
calls_of local = record { variable = false; call = λ name arguments. bytes_eq name.uri [] && bytes_eq name.local local }

abbrev pub is_key_start : Start (List ℕ) Expanded → Bool
is_key_start Anywhere = false
is_key_start Root = false
is_key_start (Id text) = false
is_key_start (Key name value) = true

-- a pattern that begins with key()
abbrev pub starts_with_key : Pattern → Bool
starts_with_key p = list_any (λ a. is_key_start a.start) p.alternatives
