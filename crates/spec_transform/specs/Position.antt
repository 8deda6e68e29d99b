-- Which predicates read no position (XPath 1.0, sections 2.4 and 4.1), by their form. The position of a node among others, and how many they
-- are, tell a predicate something in two ways alone: where it calls position() or last(), and where its value is a number, which then keeps
-- the node at that position. All else that a context holds for a predicate is the node itself, the current node, the variables and the
-- namespaces, which are the same whatever nodes stand beside it.
use Rattle.std.specs.Prelude.{ℕ, ◌+◌, Bool, true, false, not, ◌&&◌, ◌||◌, Option, None, Some}
use Rattle.spec_expression.specs.declared.Operator.{Operator}
use Rattle.spec_expression.specs.declared.Operator.TheVariants as op
use Rattle.spec_expression.specs.Syntax.{Expr, number, literal, variable, call, chain, negation, filter, root, here, path, Exprs, no_exprs, expr, Links, no_links, link, Steps, no_steps, step}
use Rattle.spec_meaning.specs.declared.function.Function.{Function}
use Rattle.spec_meaning.specs.declared.function.Function.TheVariants.{OfContext, OfNodes, OfText, OfValue}
use Rattle.spec_meaning.specs.declared.function.ContextFunction.TheVariants as context
use Rattle.spec_meaning.specs.declared.function.NodesFunction.TheVariants as nodes
use Rattle.spec_meaning.specs.declared.function.TextFunction.TheVariants as text
use Rattle.spec_meaning.specs.declared.function.ValueFunction.TheVariants as one
use Rattle.spec_meaning.specs.Function.{function_of}

abbrev pub count_of : Exprs → ℕ
count_of no_exprs = 0
count_of (expr e es) = count_of es + 1

-- ---- Calls of position() and last()

abbrev pub is_positional : Option Function → Bool
is_positional (Some (OfContext context.Last)) = true
is_positional (Some (OfContext context.Position)) = true
is_positional _ = false

-- whether they are called anywhere in an expression: also in the predicates of steps within it, which have positions of their own
abbrev mutual
  pub seeks : Expr → Bool
  seeks (number n) = false
  seeks (literal t) = false
  seeks (variable name) = false
  seeks (call name arguments) = is_positional (function_of name (count_of arguments)) || one_seeks arguments
  seeks (chain e more) = seeks e || operand_seeks more
  seeks (negation signs e) = seeks e
  seeks (filter e predicates) = seeks e || one_seeks predicates
  seeks root = false
  seeks here = false
  seeks (path e steps) = seeks e || step_seeks steps

  pub one_seeks : Exprs → Bool
  one_seeks no_exprs = false
  one_seeks (expr e es) = seeks e || one_seeks es

  pub operand_seeks : Links → Bool
  operand_seeks no_links = false
  operand_seeks (link operator e more) = seeks e || operand_seeks more

  pub step_seeks : Steps → Bool
  step_seeks no_steps = false
  step_seeks (step axis test predicates more) = one_seeks predicates || step_seeks more

-- ---- Values that may be numbers

-- system-property() gives one for xsl:version; a call that no function takes is refused
abbrev pub may_give_number : Option Function → Bool
may_give_number None = true
may_give_number (Some (OfContext context.Last)) = true
may_give_number (Some (OfContext context.Position)) = true
may_give_number (Some (OfNodes nodes.Count)) = true
may_give_number (Some (OfNodes nodes.Sum)) = true
may_give_number (Some (OfText text.StringLength)) = true
may_give_number (Some (OfText text.SystemProperty)) = true
may_give_number (Some (OfValue one.Number)) = true
may_give_number (Some (OfValue one.Rounded)) = true
may_give_number _ = false

abbrev pub is_arithmetic : Operator → Bool
is_arithmetic op.Add = true
is_arithmetic op.Subtract = true
is_arithmetic op.Multiply = true
is_arithmetic op.Divide = true
is_arithmetic op.Modulo = true
is_arithmetic _ = false

-- the value of a chain is what its last operator makes
abbrev pub counts_after : Bool → Links → Bool
counts_after before no_links = before
counts_after before (link operator e more) = counts_after (is_arithmetic operator) more

-- whether the value of an expression may be a number; that of a variable is not seen in its name
abbrev pub may_count : Expr → Bool
may_count (number n) = true
may_count (literal t) = false
may_count (variable name) = true
may_count (call name arguments) = may_give_number (function_of name (count_of arguments))
may_count (chain e more) = counts_after (may_count e) more
may_count (negation signs e) = true
may_count (filter e predicates) = false
may_count root = false
may_count here = false
may_count (path e steps) = false

-- ---- Predicates

-- what it says of a node, it says of it at any position among any number of nodes
abbrev pub reads_no_position : Expr → Bool
reads_no_position predicate = not (seeks predicate) && not (may_count predicate)

abbrev pub read_no_position : Exprs → Bool
read_no_position no_exprs = true
read_no_position (expr p ps) = reads_no_position p && read_no_position ps
