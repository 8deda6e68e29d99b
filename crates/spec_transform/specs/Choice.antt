-- Choice of a template rule (XSLT 1.0, sections 5.5 and 5.6): of the rules of the mode whose pattern matches, the one of the highest import
-- precedence, then of the highest priority, then the last; for xsl:apply-imports of those alone that the stylesheet of the current rule
-- imports. Rules stand in this order, the greatest first, so the first that matches is chosen. Where none does, it is a built-in rule.
use Rattle.std.specs.Prelude.{◌≡◌, ℕ, ◌+◌, ◌==◌, int_lt, int_le, Bool, true, false, not, ◌&&◌, ◌||◌, IsTrue, List, [], ◌∷◌, slice_get, nat_le, nat_lt, Option, None, Some, if◌then◌else◌}
use Rattle.std.specs.List.{list_all}
use Rattle.std.specs.Option.{ForSome}
use Rattle.spec_document.specs.Name.{Expanded, same_name}
use Rattle.spec_document.specs.Scope.{Scope, root_scope}
use Rattle.spec_stylesheet.specs.Sheet as sheet
use Rattle.spec_stylesheet.specs.Sheet.{Rule}
use Rattle.spec_meaning.specs.Question as question
use Rattle.spec_meaning.specs.Question.{Question, Answer, Candidates, AllRules, Imported}
use Rattle.spec_meaning.specs.Program.{Program, Give, Ask, Supply, Gives, outcome_of, ◌>>=◌}
use Rattle.spec_meaning.specs.Context.{Context}
use Rattle.spec_transform.specs.Match.{matches_one, matches}

abbrev pub same_mode : Option Expanded → Option Expanded → Bool
same_mode None None = true
same_mode (Some a) (Some b) = same_name a b
same_mode _ _ = false

-- all rules; or those of a precedence from the first on and below the last, which is that of the stylesheet that imports them
abbrev pub is_candidate : Candidates → ℕ → Bool
is_candidate AllRules precedence = true
is_candidate (Imported first last) precedence = nat_le first precedence && nat_lt precedence last

abbrev pub may_be_chosen : Option Expanded → Candidates → Rule → Bool
may_be_chosen mode candidates rule = same_mode mode rule.mode && is_candidate candidates rule.precedence

-- where the pattern of a rule stands: the node that is to match is the current one, there are no variables, and the namespaces in scope
-- are those at the element of its template
abbrev pub scope_for : List sheet.Unit → Rule → Scope
scope_for units rule = elim (slice_get units rule.unit) [ None ↦ root_scope | Some unit ↦ unit.site.scope ]

abbrev pub context_for : {N : Type 0} → List sheet.Unit → N → Rule → Context N
context_for units n rule = record { node = n; current = n; position = None; size = None; bindings = []; scope = scope_for units rule }

-- whether a rule is a candidate that a node which is called so matches; each pattern is asked in the context of its rule
abbrev pub is_chosen : {N : Type 0} → (N → N → Bool) → (Rule → Context N) → Option Expanded → Candidates → Rule → N → Answer N → Program N Bool
is_chosen same c mode candidates rule n called =
    if may_be_chosen mode candidates rule then matches_one same (c rule) rule.pattern.alternatives n called else Give false

-- the number of the first such rule, where the next has this number
abbrev pub first_that_matches : {N : Type 0} → (N → N → Bool) → (Rule → Context N) → Option Expanded → Candidates → ℕ → List Rule → N → Answer N → Program N (Option ℕ)
first_that_matches same c mode candidates number [] n called = Give None
first_that_matches same c mode candidates number (rule ∷ rules) n called =
    is_chosen same c mode candidates rule n called >>= λ b. if b
    then Give (Some number)
    else first_that_matches same c mode candidates (number + 1) rules n called

-- what the node is called is asked once for all rules
abbrev pub chosen : {N : Type 0} → (N → N → Bool) → (Rule → Context N) → N → Option Expanded → Candidates → List Rule → Program N (Option ℕ)
chosen same c n mode candidates rules = Ask (question.Name n) (λ called. first_that_matches same c mode candidates 0 rules n called)

-- ---- That the first is the greatest

-- whether a rule counts for more than another: by a higher precedence, then by a higher priority, then by a later turn in the stylesheet
abbrev pub counts_more : Rule → Rule → Bool
counts_more a b =
    nat_lt b.precedence a.precedence
    || (a.precedence == b.precedence && (int_lt b.priority a.priority || (int_le b.priority a.priority && nat_lt b.order a.order)))

-- the greatest first: none counts for more than one before it
abbrev pub IsRanked : List Rule → Type 0
IsRanked [] = Unit {0}
IsRanked (rule ∷ rules) = IsTrue (list_all (λ other. not (counts_more other rule)) rules) × IsRanked rules

-- whether the pattern of a rule that may be chosen matches a node, where these are the answers
abbrev pub CanBeChosen : {N : Type 0} → (N → N → Bool) → (Rule → Context N) → N → Option Expanded → Candidates → (Question N → Answer N) → Supply N → Rule → Type 0
CanBeChosen same c n mode candidates ask supply rule =
    (may_be_chosen mode candidates rule ≡ true) × (outcome_of ask supply (matches same (c rule) rule.pattern n) ≡ Gives true)

-- of a rule and all rules: it is such a one, and no other such one counts for more
abbrev pub IsGreatest : (Rule → Type 0) → List Rule → Rule → Type 0
IsGreatest CanBe rules rule = CanBe rule × ((k : ℕ) → ForSome (slice_get rules k) (λ other. CanBe other → counts_more other rule ≡ false))
