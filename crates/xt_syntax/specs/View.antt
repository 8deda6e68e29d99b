-- The trees that the types of the program stand for.
use Rattle.spec_expression.specs.Syntax as tree
use Rattle.xt_syntax.specs.declared.expr.Test.{Test}
use Rattle.xt_syntax.specs.declared.expr.Test.TheVariants as tests
use Rattle.xt_syntax.specs.declared.expr.Expr.{Expr, Expr-F, fold-Expr}
use Rattle.xt_syntax.specs.declared.expr.Link.{Link, Link-F, fold-Link}
use Rattle.xt_syntax.specs.declared.expr.Step.{Step, Step-F, fold-Step}

abbrev pub test_of : Test → tree.Test
test_of tests.AnyName = tree.AnyName
test_of (tests.InNamespace uri) = tree.InNamespace uri
test_of (tests.Named name) = tree.Named name
test_of (tests.OfType type) = tree.OfType type
test_of (tests.Instruction target) = tree.Instruction target

-- one level, with what is below it seen already
abbrev pub expr_step : Expr-F tree.Expr tree.Link tree.Step → tree.Expr
expr_step (Expr-F.Number n) = tree.number n
expr_step (Expr-F.Literal t) = tree.literal t
expr_step (Expr-F.Variable name) = tree.variable name
expr_step (Expr-F.Call name es) = tree.call name (tree.exprs es.items)
expr_step (Expr-F.Chain e ls) = tree.chain e.value (tree.links ls.items)
expr_step (Expr-F.Negation n e) = tree.negation n e.value
expr_step (Expr-F.Filter e ps) = tree.filter e.value (tree.exprs ps.items)
expr_step Expr-F.Root = tree.root
expr_step Expr-F.Here = tree.here
expr_step (Expr-F.Path e ss) = tree.path e.value (tree.steps ss.items)

abbrev pub link_step : Link-F tree.Expr tree.Link tree.Step → tree.Link
link_step l = record { operator = l.operator; operand = l.operand }

abbrev pub step_step : Step-F tree.Expr tree.Link tree.Step → tree.Step
step_step s = record { axis = s.axis; test = test_of s.test; predicates = tree.exprs s.predicates.items }

abbrev pub expr_of : Expr → tree.Expr
expr_of = fold-Expr tree.Expr tree.Link tree.Step expr_step link_step step_step

abbrev pub link_of : Link → tree.Link
link_of = fold-Link tree.Expr tree.Link tree.Step expr_step link_step step_step

abbrev pub step_of : Step → tree.Step
step_of = fold-Step tree.Expr tree.Link tree.Step expr_step link_step step_step
