use Rattle.std.proofs.Common.{◌≡◌, map, drop}
use Rattle.spec_expression.specs.Syntax.{exprs, links, steps}
use Rattle.spec_transform.specs.Position.{one_seeks, operand_seeks, step_seeks}
use Rattle.xt_syntax.specs.View.{expr_of, link_of, step_of}
use Rattle.xt_match.proofs.position.+seeks.Given as goal

abbrev pub invariant-one_seeks-loop-expr : goal.invariant-one_seeks-loop-expr
invariant-one_seeks-loop-expr l = one_seeks (exprs (map expr_of (drop l.expr-index l.list))) ≡ one_seeks (exprs (map expr_of l.list))

abbrev pub invariant-operand_seeks-loop-link : goal.invariant-operand_seeks-loop-link
invariant-operand_seeks-loop-link l = operand_seeks (links (map link_of (drop l.link-index l.list))) ≡ operand_seeks (links (map link_of l.list))

abbrev pub invariant-step_seeks-loop-step : goal.invariant-step_seeks-loop-step
invariant-step_seeks-loop-step l = step_seeks (steps (map step_of (drop l.step-index l.list))) ≡ step_seeks (steps (map step_of l.list))
