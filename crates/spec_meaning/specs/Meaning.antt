-- What an expression means (XPath 1.0, sections 2 and 3). Operands, arguments and steps are evaluated from left to right, a step with
-- its predicates for one node after another, a predicate for all its nodes before the next predicate; the first refusal ends it.
use Rattle.std.specs.Prelude.{ℕ, suc, zero, pos, ◌+◌, ◌++◌, Bool, List, [], ◌∷◌, length, Option, None, Some, if◌then◌else◌}
use Rattle.spec_document.specs.declared.axis.Axis.{Axis}
use Rattle.spec_document.specs.declared.axis.Axis.TheVariants as axis
use Rattle.spec_document.specs.Name.{Expanded}
use Rattle.spec_expression.specs.declared.NodeType.TheVariants as type
use Rattle.spec_expression.specs.Syntax.{Test, OfType, Expr, number, literal, variable, call, chain, negation, filter, root, here, path, Exprs, no_exprs, expr, Links, no_links, link, Steps, no_steps, step}
use Rattle.spec_expression.specs.Number.{Number, Whole, negation_of, order_of}
use Rattle.spec_meaning.specs.Value as value
use Rattle.spec_meaning.specs.Value.{Value}
use Rattle.spec_meaning.specs.Question as question
use Rattle.spec_meaning.specs.Question.{nodes_in}
use Rattle.spec_meaning.specs.Program.{Global, value_in, Program, Give, Ask, Need, ◌>>=◌}
use Rattle.spec_meaning.specs.Context.{Context, at_node, binding_of}
use Rattle.spec_meaning.specs.Convert.{counted, to_number, to_boolean, to_nodes}
use Rattle.spec_meaning.specs.Compare.{is_equal}
use Rattle.spec_meaning.specs.Operation.{linked}
use Rattle.spec_meaning.specs.Function.{function_of}
use Rattle.spec_meaning.specs.Call.{arranged, called}

-- the value of a variable: a local one, or a global
abbrev pub bound_or_global : {N : Type 0} → Expanded → Option (Value N) → Program N (Value N)
bound_or_global name (Some v) = Give v
bound_or_global name None = Need (Global name) (λ g. Give (value_in g))

-- so many signs before a number
abbrev pub signed : ℕ → Number → Number
signed zero n = n
signed (suc k) n = negation_of (signed k n)

-- the last of the nodes from a node up is the root
abbrev pub last_of : {N : Type 0} → List N → List N
last_of [] = []
last_of (n ∷ []) = n ∷ []
last_of (n ∷ m ∷ more) = last_of (m ∷ more)

-- a predicate that is a number keeps the node at that position; any other by its boolean (section 2.4)
abbrev pub keeps : {N : Type 0} → Value N → ℕ → Bool
keeps (value.Number n) position = is_equal (order_of n (Whole (pos position)))
keeps v position = to_boolean v

-- the nodes that a predicate keeps, after those kept so far; the next one has this position of so many
abbrev pub kept : {N : Type 0} → (Context N → Program N (Value N)) → Context N → (size position : ℕ) → List N → List N → Program N (List N)
kept predicate c size position done [] = Give done
kept predicate c size position done (n ∷ ns) =
    predicate (at_node c n position size)
    >>= λ v. kept predicate c size (position + 1) (if keeps v position then done ++ n ∷ [] else done) ns

-- what a step gives at each node, one after another, after what it gave so far
abbrev pub stepped : {N : Type 0} → (List N → Program N (List N)) → Axis → Test → List N → List N → Program N (List N)
stepped predicates axis test done [] = Give done
stepped predicates axis test done (n ∷ ns) =
    Ask (question.Step n axis test) (λ a. predicates (nodes_in a) >>= λ ms. stepped predicates axis test (done ++ ms) ns)

abbrev mutual
  pub meaning : {N : Type 0} → Expr → Context N → Program N (Value N)
  meaning (number n) c = counted n
  meaning (literal t) c = Give (value.Text t)
  meaning (variable name) c = bound_or_global name (binding_of name c.bindings)
  meaning (call name arguments) c = values_of arguments c [] >>= λ vs. called (function_of name (length vs)) vs c
  meaning (chain e more) c = meaning e c >>= λ v. chained more c v
  meaning (negation signs e) c = meaning e c >>= λ v. to_number v >>= λ n. Give (value.Number (signed signs n))
  meaning (filter e predicates) c = meaning e c >>= λ v. to_nodes v >>= λ ns. kept_by predicates c ns >>= λ ms. Give (value.Nodes ms)
  meaning root c = Ask (question.Step c.node axis.AncestorOrSelf (OfType type.Node)) (λ a. Give (value.Nodes (last_of (nodes_in a))))
  meaning here c = Give (value.Nodes (c.node ∷ []))
  meaning (path e steps) c = meaning e c >>= λ v. to_nodes v >>= λ ns. along steps c ns >>= λ ms. Give (value.Nodes ms)

  -- the values of arguments, after those before them
  pub values_of : {N : Type 0} → Exprs → Context N → List (Value N) → Program N (List (Value N))
  values_of no_exprs c done = Give done
  values_of (expr e es) c done = meaning e c >>= λ v. values_of es c (done ++ v ∷ [])

  -- the further operands of a chain, after the value of what stands before them
  pub chained : {N : Type 0} → Links → Context N → Value N → Program N (Value N)
  chained no_links c v = Give v
  chained (link operator e more) c v = linked operator v (meaning e c) >>= λ w. chained more c w

  -- the nodes that all predicates keep, one predicate after another
  pub kept_by : {N : Type 0} → Exprs → Context N → List N → Program N (List N)
  kept_by no_exprs c ns = Give ns
  kept_by (expr p ps) c ns = kept (meaning p) c (length ns) 1 [] ns >>= λ ms. kept_by ps c ms

  -- where the steps lead from these nodes
  pub along : {N : Type 0} → Steps → Context N → List N → Program N (List N)
  along no_steps c ns = Give ns
  along (step axis test predicates more) c ns =
      stepped (kept_by predicates c) axis test [] ns >>= λ found. arranged ns axis found >>= λ ms. along more c ms
