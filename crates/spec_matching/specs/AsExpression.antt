-- A pattern, read as an expression (XSLT 1.0, section 5.2): which nodes it gives from a context node. Its steps stand in their order, `//` before one is
-- descendant-or-self::node()/, and it starts at the context node, at the root where it begins with `/`, at the nodes of a key where it begins with key(),
-- and at none where it begins with id(), since no element has an ID.
-- It is read with one forgiveness: a predicate that is refused of a node does not keep it, and a key() that is refused gives no node, where the
-- expression would be refused. Else it is the expression: `Reads` says of which one, and what that gives, this gives.
use Rattle.std.specs.Prelude.{◌≡◌, ℕ, List, [], ◌∷◌, length, None, Some, codes}
use Rattle.spec_document.specs.declared.axis.Axis.TheVariants as axis
use Rattle.spec_document.specs.Name.{Expanded, QName, qname_of}
use Rattle.spec_document.specs.Scope.{Scope}
use Rattle.spec_document.specs.Declaration.{attribute_name}
use Rattle.spec_expression.specs.declared.NodeType.TheVariants as type
use Rattle.spec_expression.specs.Syntax.{OfType, Expr, literal, call, root, here, path, Exprs, no_exprs, expr, Steps, no_steps, step}
use Rattle.spec_stylesheet.specs.declared.pattern.Separator.{Separator}
use Rattle.spec_stylesheet.specs.declared.pattern.Separator.TheVariants as separators
use Rattle.spec_stylesheet.specs.declared.pattern.Start.{Start}
use Rattle.spec_stylesheet.specs.declared.pattern.Start.TheVariants.{Anywhere, Root, Id, Key}
use Rattle.spec_stylesheet.specs.Pattern.{PatternStep, Alternative}
use Rattle.spec_meaning.specs.Question as question
use Rattle.spec_meaning.specs.Question.{nodes_in}
use Rattle.spec_meaning.specs.Program.{Program, Give, Ask, ◌>>=◌}
use Rattle.spec_meaning.specs.Context.{Context}
use Rattle.spec_meaning.specs.Call.{arranged}
use Rattle.spec_meaning.specs.Meaning.{last_of, stepped}
use Rattle.spec_transform.specs.Match.{all_kept}

-- ---- The steps

abbrev pub after_separator : Separator → Steps → Steps
after_separator separators.Child ss = ss
after_separator separators.Descendant ss = step axis.DescendantOrSelf (OfType type.Node) no_exprs ss

-- the steps of a pattern, each with what stands before it
abbrev pub steps_read : List PatternStep → Steps
steps_read [] = no_steps
steps_read (s ∷ more) = after_separator s.separator (step s.step.axis s.step.test s.step.predicates (steps_read more))

-- the nodes that all predicates keep, one predicate after another
abbrev pub all_kept_by : {N : Type 0} → Exprs → Context N → List N → Program N (List N)
all_kept_by no_exprs c ns = Give ns
all_kept_by (expr p ps) c ns = all_kept p c (length ns) 1 [] ns >>= λ ms. all_kept_by ps c ms

-- where the steps lead from these nodes
abbrev pub led_along : {N : Type 0} → Steps → Context N → List N → Program N (List N)
led_along no_steps c ns = Give ns
led_along (step axis test predicates more) c ns =
    stepped (all_kept_by predicates c) axis test [] ns >>= λ found. arranged ns axis found >>= λ ms. led_along more c ms

-- ---- The start

-- the nodes at which it starts, from this node as context
abbrev pub started_at : {N : Type 0} → Start (List ℕ) Expanded → N → Program N (List N)
started_at Anywhere above = Give (above ∷ [])
started_at Root above = Ask (question.Step above axis.AncestorOrSelf (OfType type.Node)) (λ a. Give (last_of (nodes_in a)))
started_at (Id text) above = Give []
started_at (Key None value) above = Give []
started_at (Key (Some name) value) above = Ask (question.Key name value) (λ a. Give (nodes_in a))

-- ---- The nodes that an alternative gives, from this node as context

abbrev pub nodes_given : {N : Type 0} → Context N → Alternative → N → Program N (List N)
nodes_given c a above = started_at a.start above >>= λ ns. led_along (steps_read a.steps) c ns

-- ---- The expression

-- a context with another node
abbrev pub standing_at : {N : Type 0} → Context N → N → Context N
standing_at c above =
    record { node = above; current = c.current; position = c.position; size = c.size; bindings = c.bindings; scope = c.scope }

abbrev pub called_so : List ℕ → Exprs → Expr
called_so name arguments = call (record { uri = []; local = name }) arguments

-- the expression at which an alternative starts; the name of a key is written as a QName
pub data StartsWith (scope : Scope) : Start (List ℕ) Expanded → Expr → Type 0 where
  anywhere : StartsWith scope Anywhere here
  at_root : StartsWith scope Root root
  by_id : {text : List ℕ} → StartsWith scope (Id text) (called_so (codes "id") (expr (literal text) no_exprs))
  by_key : {written : List ℕ} {qname : QName} {name : Expanded} {value : List ℕ} → qname_of written ≡ Some qname → attribute_name scope qname ≡ Some name
      → StartsWith scope (Key (Some name) value) (called_so (codes "key") (expr (literal written) (expr (literal value) no_exprs)))

abbrev pub followed_by : Expr → Steps → Expr
followed_by e no_steps = e
followed_by e (step axis test predicates more) = path e (step axis test predicates more)

-- an alternative, where it is read as this expression
pub data Reads (scope : Scope) (a : Alternative) : Expr → Type 0 where
  reads : {e : Expr} → StartsWith scope a.start e → Reads scope a (followed_by e (steps_read a.steps))
