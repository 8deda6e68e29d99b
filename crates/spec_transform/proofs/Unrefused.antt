-- Matching and choice are never refused.
use Rattle.std.proofs.Common.{◌≡◌, ℕ, ◌+◌, Bool, true, false, List, [], ◌∷◌, ◌++◌, length, reverse, Option, None, Some}
use Rattle.std.specs.Prelude.{if◌then◌else◌}
use Rattle.spec_document.specs.Name.{Expanded}
use Rattle.spec_expression.specs.Syntax.{Expr, Exprs, no_exprs, expr, Step}
use Rattle.spec_stylesheet.specs.declared.pattern.Start.{Start}
use Rattle.spec_stylesheet.specs.declared.pattern.Start.TheVariants.{Anywhere, Root, Id, Key}
use Rattle.spec_stylesheet.specs.Pattern.{PatternStep, Alternative}
use Rattle.spec_stylesheet.specs.Sheet.{Rule}
use Rattle.spec_meaning.specs.Context.{Context}
use Rattle.spec_meaning.specs.Question.{Question, Answer, Candidates, Refusal, nodes_in}
use Rattle.spec_meaning.specs.Program.{Wanted, Given, Program, Give, Refuse, Ask, Need, Supply, Refuses, Lacks, if_given, outcome_of, then}
use Rattle.spec_transform.specs.Match as definition
use Rattle.spec_transform.specs.Match.{caught, passes}
use Rattle.spec_transform.specs.Position.{read_no_position}
use Rattle.spec_transform.specs.Choice as choice

-- programs that refuse nothing, whatever the answers
pub data Unrefused {N A : Type 0} : Program N A → Type 0 where
  gives : {v : A} → Unrefused (Give v)
  asks : {q : Question N} {next : Answer N → Program N A} → ((a : Answer N) → Unrefused (next a)) → Unrefused (Ask q next)
  needs : {w : Wanted} {next : Given N → Program N A} → ((g : Given N) → Unrefused (next g)) → Unrefused (Need w next)

and_then : {N A B : Type 0} {p : Program N A} {k : A → Program N B} → Unrefused p → ((v : A) → Unrefused (k v)) → Unrefused ((then) p k)
unfolding then
and_then (gives {v = v}) h = h v
and_then (asks g) h = asks (λ a. and_then (g a) h)
and_then (needs g) h = needs (λ x. and_then (g x) h)

caught_is : {N : Type 0} (p : Program N Bool) → Unrefused (caught p)
unfolding caught
caught_is (Give v) = gives
caught_is (Refuse w) = gives
caught_is (Ask q next) = asks (λ a. caught_is (next a))
caught_is (Need w next) = needs (λ g. caught_is (next g))

either : {N A : Type 0} (b : Bool) {p q : Program N A} → Unrefused p → Unrefused q → Unrefused (if b then p else q)
either true h g = h
either false h g = g

all_kept : {N : Type 0} (e : Expr) (c : Context N) (size position : ℕ) (done ns : List N) → Unrefused (definition.all_kept e c size position done ns)
all_kept e c size position done [] = gives
all_kept e c size position done (n ∷ ns) =
    and_then (caught_is _) (λ b. all_kept e c size (position + 1) (if b then done ++ n ∷ [] else done) ns)

kept_there : {N : Type 0} (e : Expr) (c : Context N) (size : ℕ) (n : N) (position : Option ℕ) → Unrefused (definition.is_kept_there e c size n position)
kept_there e c size n None = gives
kept_there e c size n (Some position) = caught_is _

keep : {N : Type 0} (same : N → N → Bool) (c : Context N) (n : N) (ps : Exprs) (ns : List N) → Unrefused (definition.keep same c n ps ns)
keep same c n no_exprs ns = gives
keep same c n (expr p no_exprs) ns = kept_there p c (length ns) n (definition.position_of same n 1 ns)
keep same c n (expr p (expr q ps)) ns = and_then (all_kept p c (length ns) 1 [] ns) (λ ms. keep same c n (expr q ps) ms)

holds_of_one : {N : Type 0} (test : N → Program N Bool) → ((n : N) → Unrefused (test n)) → (ns : List N) → Unrefused (definition.holds_of_one test ns)
holds_of_one test h [] = gives
holds_of_one test h (n ∷ ns) = and_then (h n) (λ b. either b gives (holds_of_one test h ns))

keep_alone : {N : Type 0} (c : Context N) (n : N) (ps : Exprs) → Unrefused (definition.keep_alone c n ps)
keep_alone c n no_exprs = gives
keep_alone c n (expr p ps) = and_then (caught_is _) (λ b. either b (keep_alone c n ps) gives)

predicates : {N : Type 0} (same : N → N → Bool) (c : Context N) (s : Step) (n : N) → Unrefused (definition.passes_predicates same c s n)
predicates {N = N} same c s n = either (read_no_position s.predicates) (keep_alone c n s.predicates)
    (asks (λ a. holds_of_one (definition.is_given_below same c s n) below (nodes_in a)))
  where
    below : (parent : N) → Unrefused (definition.is_given_below same c s n parent)
    below parent = asks (λ a. keep same c n s.predicates (nodes_in a))

starts_at : {N : Type 0} (same : N → N → Bool) (start : Start (List ℕ) Expanded) (n : N) (called : Answer N) → Unrefused (definition.starts_at same start n called)
starts_at same Anywhere n called = gives
starts_at same Root n called = gives
starts_at same (Id text) n called = gives
starts_at same (Key None value) n called = gives
starts_at same (Key (Some name) value) n called = asks (λ a. gives)

matches_steps : {N : Type 0} (same : N → N → Bool) (c : Context N) (start : Start (List ℕ) Expanded) (steps : List PatternStep) (n : N) (called : Answer N)
    → Unrefused (definition.matches_steps same c start steps n called)
matches_steps same c start [] n called = starts_at same start n called
matches_steps same c start (s ∷ before) n called =
    and_then (either (passes s.step.axis s.step.test called) (predicates same c s.step n) gives)
    (λ b. either b (either (definition.is_free start before) gives
    (asks (λ a. holds_of_one (definition.when_called (definition.matches_steps same c start before)) (λ m. asks (λ x. matches_steps same c start before m x)) (nodes_in a)))) gives)

pub matches_one : {N : Type 0} (same : N → N → Bool) (c : Context N) (alternatives : List Alternative) (n : N) (called : Answer N)
    → Unrefused (definition.matches_one same c alternatives n called)
matches_one same c [] n called = gives
matches_one same c (a ∷ more) n called =
    and_then (matches_steps same c a.start (reverse a.steps) n called) (λ b. either b gives (matches_one same c more n called))

pub first_that_matches : {N : Type 0} (same : N → N → Bool) (c : Rule → Context N) (mode : Option Expanded) (candidates : Candidates) (number : ℕ) (rules : List Rule)
    (n : N) (called : Answer N) → Unrefused (choice.first_that_matches same c mode candidates number rules n called)
first_that_matches same c mode candidates number [] n called = gives
first_that_matches same c mode candidates number (rule ∷ rules) n called =
    and_then (either (choice.may_be_chosen mode candidates rule) (matches_one same (c rule) rule.pattern.alternatives n called) gives)
    (λ b. either b gives (first_that_matches same c mode candidates (number + 1) rules n called))

pub never_refused : {N A : Type 0} (ask : Question N → Answer N) (supply : Supply N) (why : Refusal) {p : Program N A} → Unrefused p
    → outcome_of ask supply p ≡ Refuses why → ⊥
never_refused ask supply why gives e = absurd (cc)
never_refused ask supply why (asks {q = q} h) e = never_refused ask supply why (h (ask q)) e
never_refused {N = N} {A = A} ask supply why (needs {w = w} {next = next} h) e = go (supply w) (λ g. never_refused ask supply why (h g)) e
  where
    go : (o : Option (Given N)) → ((g : Given N) → outcome_of ask supply (next g) ≡ Refuses why → ⊥)
        → if_given (λ g. outcome_of ask supply (next g)) (Lacks w) o ≡ Refuses why → ⊥
    go None f h = absurd (cc)
    go (Some g) f h = f g h
