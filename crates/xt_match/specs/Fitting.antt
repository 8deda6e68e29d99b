-- Which rules may match a node that is called so, whatever else is asked of it, and the first among some rules that does.
use Rattle.std.specs.Prelude.{◌≡◌, ℕ, ◌+◌, Bool, true, false, ◌&&◌, List, [], ◌∷◌, reverse, slice_get, Option, None, Some, if◌then◌else◌}
use Rattle.std.specs.List.{list_any}
use Rattle.spec_document.specs.Name.{Expanded}
use Rattle.spec_document.specs.declared.axis.Axis.{Axis}
use Rattle.spec_document.specs.declared.kind.Kind.{Kind}
use Rattle.spec_document.specs.declared.kind.Kind.TheVariants as kind
use Rattle.spec_expression.specs.Syntax.{Step, Test}
use Rattle.spec_stylesheet.specs.declared.pattern.Start.{Start}
use Rattle.spec_stylesheet.specs.declared.pattern.Start.TheVariants.{Anywhere, Root, Id, Key}
use Rattle.spec_stylesheet.specs.Pattern.{PatternStep, Alternative}
use Rattle.spec_stylesheet.specs.Sheet.{Rule}
use Rattle.spec_meaning.specs.Context.{Context}
use Rattle.spec_meaning.specs.Question as question
use Rattle.spec_meaning.specs.Question.{Answer, Candidates}
use Rattle.spec_meaning.specs.Program.{Program, Give, ◌>>=◌}
use Rattle.spec_transform.specs.Choice.{is_chosen, same_mode}
use Rattle.spec_transform.specs.Match.{is_led_to, passes_test}
use Rattle.xt_match.specs.CalledIn.{CalledIn}

abbrev pub is_root_kind : Kind → Bool
is_root_kind kind.Root = true
is_root_kind _ = false

abbrev pub start_fits : CalledIn → Start (List ℕ) Expanded → Bool
start_fits called Anywhere = true
start_fits called Root = is_root_kind called.kind
start_fits called (Id text) = false
start_fits called (Key name value) = true

abbrev pub kind_fits : CalledIn → Axis → Test → Bool
kind_fits called axis test = is_led_to axis called.kind && passes_test axis test called.kind called.name

abbrev pub step_fits : CalledIn → Step → Bool
step_fits called s = kind_fits called s.axis s.test

-- of the steps the last comes first
abbrev pub last_fits : CalledIn → Start (List ℕ) Expanded → List PatternStep → Bool
last_fits called start [] = start_fits called start
last_fits called start (s ∷ before) = step_fits called s.step

abbrev pub alternative_fits : CalledIn → Alternative → Bool
alternative_fits called a = last_fits called a.start (reverse a.steps)

abbrev pub may_match : CalledIn → Rule → Bool
may_match called rule = same_mode called.mode rule.mode && list_any (alternative_fits called) rule.pattern.alternatives

-- the numbers of the rules that may match, where the next has this number
abbrev pub numbers_from : CalledIn → ℕ → List Rule → List ℕ
numbers_from called number [] = []
numbers_from called number (rule ∷ rules) =
    if may_match called rule then number ∷ numbers_from called (number + 1) rules else numbers_from called (number + 1) rules

-- whether a rule is one that is chosen, where there is one
abbrev pub is_one_chosen : {N : Type 0} → (N → N → Bool) → (Rule → Context N) → Option Expanded → Candidates → Option Rule → N → Answer N → Program N Bool
is_one_chosen same c mode candidates None n called = Give false
is_one_chosen same c mode candidates (Some rule) n called = is_chosen same c mode candidates rule n called

-- the first of these numbers whose rule is chosen
abbrev pub first_among : {N : Type 0} → (N → N → Bool) → (Rule → Context N) → Option Expanded → Candidates → List Rule → List ℕ → N → Answer N → Program N (Option ℕ)
first_among same c mode candidates rules [] n called = Give None
first_among same c mode candidates rules (number ∷ numbers) n called =
    is_one_chosen same c mode candidates (slice_get rules number) n called >>= λ b. if b
    then Give (Some number)
    else first_among same c mode candidates rules numbers n called

-- a node of this kind and name is called so
pub record IsCalled {N : Type 0} (called : Answer N) (kind : Kind) (name : Option Expanded) : Type 0 where
  pub written : List ℕ
  pub same : called ≡ question.Named kind name written
