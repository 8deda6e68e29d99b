-- Which nodes of a small tree match some patterns, and which nodes these give from a node above, as computed facts. The tree is a table, since the
-- namespaces in scope at the elements of a document do not compute.
use Rattle.std.proofs.Common.{◌≡◌, ℕ, Bool, true, false, List, [], ◌∷◌, Option, Some, None, refl}
use Rattle.std.specs.Prelude.{codes, map, filter, ◌==◌, ◌&&◌}
use Rattle.std.specs.List.{list_any, find}
use Rattle.spec_document.specs.declared.axis.Axis.TheVariants as axis
use Rattle.spec_document.specs.declared.kind.Kind.{Kind}
use Rattle.spec_document.specs.declared.kind.Kind.TheVariants as kind
use Rattle.spec_document.specs.Name.{Expanded}
use Rattle.spec_document.specs.Scope.{root_scope}
use Rattle.spec_document.specs.Order.{Way, ToChild}
use Rattle.spec_document.specs.Axis.{is_on, in_axis_order}
use Rattle.spec_expression.specs.declared.NodeType.TheVariants as type
use Rattle.spec_expression.specs.declared.Operator.TheVariants as operator
use Rattle.spec_expression.specs.declared.code.DynCode.TheVariants as code
use Rattle.spec_expression.specs.Syntax.{Named, OfType, Exprs, Expr, number, chain, here, path, no_exprs, expr, no_links, link, no_steps, step}
use Rattle.spec_stylesheet.specs.declared.pattern.Separator.{Separator}
use Rattle.spec_stylesheet.specs.declared.pattern.Separator.TheVariants as separators
use Rattle.spec_stylesheet.specs.declared.pattern.Start.TheVariants.{Anywhere, Root}
use Rattle.spec_stylesheet.specs.Pattern.{PatternStep, Alternative}
use Rattle.spec_meaning.specs.Question as question
use Rattle.spec_meaning.specs.Question.{Question, Answer, Here}
use Rattle.spec_meaning.specs.Program.{Said, Gives, Refuses, Supply, outcome_of, then}
use Rattle.spec_meaning.specs.Context.{Context}
use Rattle.spec_meaning.specs.Meaning.{meaning}
use Rattle.spec_transform.specs.Match.{caught, passes_test, matches}
use Rattle.spec_matching.specs.AsExpression.{steps_read, nodes_given, standing_at}

abbrev plain : List ℕ → Expanded
plain local = record { uri = []; local = local }

record Row : Type 0 where
  key : ℕ
  way : List Way
  kind_there : Kind
  name : Option Expanded

abbrev element : ℕ → List Way → List ℕ → Row
element key way name = record { key = key; way = way; kind_there = kind.Element; name = Some (plain name) }

-- 0 is the root of <a><b/><c/><b/></a>
abbrev rows : List Row
rows =
    record { key = 0; way = []; kind_there = kind.Root; name = None }
    ∷ element 1 (ToChild 1 ∷ []) (codes "a") ∷ element 2 (ToChild 1 ∷ ToChild 1 ∷ []) (codes "b")
    ∷ element 3 (ToChild 1 ∷ ToChild 2 ∷ []) (codes "c") ∷ element 4 (ToChild 1 ∷ ToChild 3 ∷ []) (codes "b") ∷ []

abbrev row_of : ℕ → Option Row
row_of n = find (λ r. r.key == n) rows

abbrev ask : Question ℕ → Answer ℕ
ask (question.Name n) = elim (row_of n) [ None ↦ question.Gone | Some r ↦ question.Named r.kind_there r.name [] ]
ask (question.Step n x test) = elim (row_of n) [
  | None ↦ question.Gone
  | Some r ↦ question.SomeNodes (in_axis_order x (map (λ o. o.key) (filter (λ o. is_on x r.way o.way && passes_test x test o.kind_there o.name) rows)))
]
ask (question.Order ns) = question.SomeNodes (map (λ o. o.key) (filter (λ o. list_any (λ n. n == o.key) ns) rows))
ask _ = question.Gone

abbrev same : ℕ → ℕ → Bool
same n m = n == m

abbrev nothing_given : Supply ℕ
nothing_given wanted = None

abbrev context : ℕ → Context ℕ
context n = record { node = n; current = n; position = None; size = None; bindings = []; scope = root_scope }

-- a step to the children of this name
abbrev children : Separator → List ℕ → Exprs → PatternStep
children separator name predicates =
    record { separator = separator; step = record { axis = axis.Child; test = Named (plain name); predicates = predicates } }

abbrev only : Expr → Exprs
only e = expr e no_exprs

abbrev matched : Alternative → ℕ → Said Bool
matched a n = outcome_of ask nothing_given (matches same (context n) (record { alternatives = a ∷ [] }) n)

abbrev given : Alternative → (n above : ℕ) → Said (List ℕ)
given a n above = outcome_of ask nothing_given (nodes_given (context n) a above)

-- a/b[2]
abbrev second : Alternative
second = record { start = Anywhere; steps = children separators.Child (codes "a") no_exprs ∷ children separators.Child (codes "b") (only (number 2)) ∷ [] }

pub the_second_matches : matched second 4 ≡ Gives true
unfolding then caught
the_second_matches = refl

pub the_first_does_not : matched second 2 ≡ Gives false
unfolding then caught
the_first_does_not = refl

pub the_second_is_given_from_the_root : given second 4 0 ≡ Gives (4 ∷ [])
unfolding then caught
the_second_is_given_from_the_root = refl

pub and_not_from_its_parent : given second 4 1 ≡ Gives []
unfolding then caught
and_not_from_its_parent = refl

-- //b
abbrev anywhere_below : Alternative
anywhere_below = record { start = Root; steps = children separators.Descendant (codes "b") no_exprs ∷ [] }

pub both_are_given : given anywhere_below 2 2 ≡ Gives (2 ∷ 4 ∷ [])
unfolding then caught
both_are_given = refl

pub read_in_full : steps_read anywhere_below.steps
    ≡ step axis.DescendantOrSelf (OfType type.Node) no_exprs (step axis.Child (Named (plain (codes "b"))) no_exprs no_steps)
read_in_full = refl

-- b[1 div 0]: where the expression is refused, the pattern gives and matches nothing
abbrev refused : Alternative
refused = record {
  start = Anywhere;
  steps = children separators.Child (codes "b") (only (chain (number 1) (link operator.Divide (number 0) no_links))) ∷ [];
}

pub it_does_not_match : matched refused 2 ≡ Gives false
unfolding then caught
it_does_not_match = refl

pub it_gives_nothing : given refused 2 1 ≡ Gives []
unfolding then caught
it_gives_nothing = refl

pub its_expression_is_refused : outcome_of ask nothing_given (meaning (path here (steps_read refused.steps)) (standing_at (context 2) 1))
    ≡ Refuses (Here code.Infinite)
unfolding then caught
its_expression_is_refused = refl
