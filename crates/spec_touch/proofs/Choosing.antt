-- The choice among rules with plain patterns is the same in two worlds in which a node and all nodes above it are called alike.
use Rattle.std.proofs.Common.{◌≡◌, ℕ, ◌+◌, Bool, true, false, cond, List, [], ◌∷◌, Option, refl, ap, ◌∙◌}
use Rattle.std.specs.Prelude.{◌&&◌, ◌||◌, not, reverse}
use Rattle.std.specs.List.{list_all}
use mathlib.Core.List.{reverse_aux}
use Rattle.spec_document.specs.Name.{Expanded}
use Rattle.spec_document.specs.declared.axis.Axis.TheVariants as axis
use Rattle.spec_expression.specs.declared.NodeType.TheVariants as type
use Rattle.spec_expression.specs.Syntax.{Exprs, no_exprs, expr, Step, OfType}
use Rattle.spec_stylesheet.specs.declared.pattern.Separator.{Separator}
use Rattle.spec_stylesheet.specs.declared.pattern.Start.{Start}
use Rattle.spec_stylesheet.specs.declared.pattern.Start.TheVariants.{Anywhere, Root, Id, Key}
use Rattle.spec_stylesheet.specs.Pattern.{PatternStep, Alternative}
use Rattle.spec_stylesheet.specs.Sheet.{Rule}
use Rattle.spec_meaning.specs.Question as question
use Rattle.spec_meaning.specs.Question.{Question, Answer, Candidates, nodes_in}
use Rattle.spec_meaning.specs.Program.{Program, Give, Ask, Supply, outcome_of, then}
use Rattle.spec_meaning.specs.Context.{Context}
use Rattle.spec_transform.specs.Match.{passes, keep_alone, holds_of_one, is_given_below, passes_predicates, passes_step, axis_above}
use Rattle.spec_transform.specs.Match.{starts_at, when_called, is_free, holds_above, matches_steps, matches_alternative, matches_one}
use Rattle.spec_transform.specs.Position.{read_no_position}
use Rattle.spec_transform.specs.Choice.{same_mode, is_candidate, is_chosen, first_that_matches, chosen}
use Rattle.spec_touch.specs.Plain.{are_none, is_plain_step, is_plain_start, is_plain_alternative, is_plain_in, are_plain_in}
use Rattle.spec_touch.proofs.Entries.{first-of, second-of}

-- ---- Lists

pub both-true : (a b : Bool) → a ≡ true → b ≡ true → (a && b) ≡ true
both-true true b e f = f
both-true false b e f = absurd (cc)

all-onto : {A : Type 0} (test : A → Bool) (xs ys : List A) → list_all test xs ≡ true → list_all test ys ≡ true
    → list_all test (reverse_aux xs ys) ≡ true
all-onto test [] ys h g = g
all-onto test (x ∷ xs) ys h g =
    all-onto test xs (x ∷ ys) (second-of (test x) (list_all test xs) h)
    (both-true (test x) (list_all test ys) (first-of (test x) (list_all test xs) h) g)

pub all-reverse : {A : Type 0} (test : A → Bool) (xs : List A) → list_all test xs ≡ true → list_all test (reverse xs) ≡ true
all-reverse test xs h = all-onto test xs [] h refl

-- ---- Programs that ask nothing but what two worlds answer alike

pub data Agrees {N A : Type 0} (ask tell : Question N → Answer N) : Program N A → Type 0 where
  gives : {v : A} → Agrees ask tell (Give v)
  asks : {q : Question N} {next : Answer N → Program N A} → ask q ≡ tell q → Agrees ask tell (next (ask q)) → Agrees ask tell (Ask q next)

pub outcome-same : {N A : Type 0} (ask tell : Question N → Answer N) (supply : Supply N) {p : Program N A} → Agrees ask tell p
    → outcome_of ask supply p ≡ outcome_of tell supply p
outcome-same ask tell supply gives = refl
outcome-same ask tell supply (asks {next = next} e h) =
    outcome-same ask tell supply h ∙ ap (λ a. outcome_of tell supply (next a)) e

then-agrees : {N A B : Type 0} {ask tell : Question N → Answer N} {p : Program N A} {k : A → Program N B} → Agrees ask tell p
    → ((v : A) → Agrees ask tell (k v)) → Agrees ask tell ((then) p k)
unfolding then
then-agrees (gives {v = v}) h = h v
then-agrees (asks e g) h = asks e (then-agrees g h)

either : {N A : Type 0} {ask tell : Question N → Answer N} {p q : Program N A} (b : Bool) → Agrees ask tell p → Agrees ask tell q
    → Agrees ask tell (cond b p q)
either true h g = h
either false h g = g

-- ---- Two worlds

-- the nodes of which the test says true are called alike, and have above them the same nodes, of which it says true as well
pub record AreAlike {N : Type 0} (ask tell : Question N → Answer N) (stays : N → Bool) : Type 0 where
  pub called : (n : N) → stays n ≡ true → ask (question.Name n) ≡ tell (question.Name n)
  pub above : (separator : Separator) (n : N) → stays n ≡ true
      → ask (question.Step n (axis_above separator) (OfType type.Node)) ≡ tell (question.Step n (axis_above separator) (OfType type.Node))
  pub stay_above : (separator : Separator) (n : N) → stays n ≡ true
      → list_all stays (nodes_in (ask (question.Step n (axis_above separator) (OfType type.Node)))) ≡ true

module _ {N : Type 0} (ask tell : Question N → Answer N) (stays : N → Bool) (alike : AreAlike ask tell stays) (same : N → N → Bool) where
  abbrev Alike : {A : Type 0} → Program N A → Type 0
  Alike p = Agrees ask tell p

  predicates-alike : (c : Context N) (s : Step) → are_none s.predicates ≡ true → (n : N) → Alike (passes_predicates same c s n)
  predicates-alike c s plain n = by s.predicates plain
    where
      by : (ps : Exprs) → are_none ps ≡ true
          → Alike (cond (read_no_position ps) (keep_alone c n ps)
          (Ask (question.Step n axis.Parent (OfType type.Node)) (λ a. holds_of_one (is_given_below same c s n) (nodes_in a))))
      by no_exprs e = gives
      by (expr p ps) e = absurd (cc)

  step-alike : (c : Context N) (s : Step) → are_none s.predicates ≡ true → (n : N) (called : Answer N) → Alike (passes_step same c s n called)
  step-alike c s plain n called = either (passes s.axis s.test called) (predicates-alike c s plain n) gives

  start-alike : (start : Start (List ℕ) Expanded) → is_plain_start start ≡ true → (n : N) (called : Answer N)
      → Alike (starts_at same start n called)
  start-alike Anywhere plain n called = gives
  start-alike Root plain n called = gives
  start-alike (Id text) plain n called = gives
  start-alike (Key name value) plain n called = absurd (cc)

  one-alike : (test : N → Answer N → Program N Bool) → ((n : N) → stays n ≡ true → (called : Answer N) → Alike (test n called))
      → (ns : List N) → list_all stays ns ≡ true → Alike (holds_of_one (when_called test) ns)
  one-alike test h [] all = gives
  one-alike test h (n ∷ ns) all =
      let own = first-of (stays n) (list_all stays ns) all in
      then-agrees (asks (alike.called n own) (h n own (ask (question.Name n))))
      (λ b. either b gives (one-alike test h ns (second-of (stays n) (list_all stays ns) all)))

  above-alike : (free : Bool) (test : N → Answer N → Program N Bool)
      → ((n : N) → stays n ≡ true → (called : Answer N) → Alike (test n called))
      → (separator : Separator) (n : N) → stays n ≡ true → Alike (holds_above free test separator n)
  above-alike free test h separator n own =
      either free gives (asks (alike.above separator n own) (one-alike test h _ (alike.stay_above separator n own)))

  steps-alike : (c : Context N) (start : Start (List ℕ) Expanded) → is_plain_start start ≡ true → (ss : List PatternStep)
      → list_all is_plain_step ss ≡ true
      → (n : N) → stays n ≡ true → (called : Answer N) → Alike (matches_steps same c start ss n called)
  steps-alike c start first [] plain n own called = start-alike start first n called
  steps-alike c start first (s ∷ before) plain n own called =
      then-agrees (step-alike c s.step (first-of (is_plain_step s) (list_all is_plain_step before) plain) n called)
      (λ b. either b (above-alike (is_free start before) (matches_steps same c start before)
      (steps-alike c start first before (second-of (is_plain_step s) (list_all is_plain_step before) plain)) s.separator n own) gives)

  alternative-alike : (c : Context N) (a : Alternative) → is_plain_alternative a ≡ true → (n : N) → stays n ≡ true → (called : Answer N)
      → Alike (matches_alternative same c a n called)
  alternative-alike c a plain n own called =
      steps-alike c a.start (first-of (is_plain_start a.start) (list_all is_plain_step a.steps) plain) (reverse a.steps)
      (all-reverse is_plain_step a.steps (second-of (is_plain_start a.start) (list_all is_plain_step a.steps) plain)) n own called

  alternatives-alike : (c : Context N) (alternatives : List Alternative) → list_all is_plain_alternative alternatives ≡ true
      → (n : N) → stays n ≡ true → (called : Answer N) → Alike (matches_one same c alternatives n called)
  alternatives-alike c [] plain n own called = gives
  alternatives-alike c (a ∷ more) plain n own called =
      then-agrees (alternative-alike c a (first-of (is_plain_alternative a) (list_all is_plain_alternative more) plain) n own called)
      (λ b. either b gives
      (alternatives-alike c more (second-of (is_plain_alternative a) (list_all is_plain_alternative more) plain) n own called))

  rule-alike : (c : Rule → Context N) (mode : Option Expanded) (candidates : Candidates) (rule : Rule) → is_plain_in mode rule ≡ true
      → (n : N) → stays n ≡ true → (called : Answer N) → Alike (is_chosen same c mode candidates rule n called)
  rule-alike c mode candidates rule plain n own called = by (same_mode mode rule.mode) (is_candidate candidates rule.precedence) plain
    where
      by : (b d : Bool) → (not b || list_all is_plain_alternative rule.pattern.alternatives) ≡ true
          → Alike (cond (b && d) (matches_one same (c rule) rule.pattern.alternatives n called) (Give false))
      by true d e = either d (alternatives-alike (c rule) rule.pattern.alternatives e n own called) gives
      by false d e = gives

  first-alike : (c : Rule → Context N) (mode : Option Expanded) (candidates : Candidates) (number : ℕ) (rules : List Rule)
      → are_plain_in mode rules ≡ true → (n : N) → stays n ≡ true → (called : Answer N)
      → Alike (first_that_matches same c mode candidates number rules n called)
  first-alike c mode candidates number [] plain n own called = gives
  first-alike c mode candidates number (rule ∷ rules) plain n own called =
      then-agrees (rule-alike c mode candidates rule (first-of (is_plain_in mode rule) (are_plain_in mode rules) plain) n own called)
      (λ b. either b gives
      (first-alike c mode candidates (number + 1) rules (second-of (is_plain_in mode rule) (are_plain_in mode rules) plain) n own called))

  pub choice-alike : (c : Rule → Context N) (mode : Option Expanded) (candidates : Candidates) (rules : List Rule)
      → are_plain_in mode rules ≡ true → (n : N) → stays n ≡ true → Alike (chosen same c n mode candidates rules)
  choice-alike c mode candidates rules plain n own =
      asks (alike.called n own) (first-alike c mode candidates 0 rules plain n own (ask (question.Name n)))
