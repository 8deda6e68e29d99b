use Rattle.std.proofs.Common.{◌≡◌, ◌++◌, drop, map}
use Rattle.spec_transform.specs.Numbering.{names_in_all, names_in_links, names_in_steps}
use Rattle.spec_expression.specs.Syntax.{exprs, links, steps}
use Rattle.xt_syntax.specs.View.{expr_of, link_of, step_of}
use Rattle.xt_lift.proofs.expressions.+add.Given as goal

abbrev pub invariant-add_in_all-loop-expr : goal.invariant-add_in_all-loop-expr
invariant-add_in_all-loop-expr l = l.into.items ++ names_in_all (exprs (map expr_of (drop l.expr-index l.list))) ≡ l.fn.into.items ++ names_in_all (exprs (map expr_of l.list))

abbrev pub invariant-add_in_links-loop-link : goal.invariant-add_in_links-loop-link
invariant-add_in_links-loop-link l = l.into.items ++ names_in_links (links (map link_of (drop l.link-index l.list))) ≡ l.fn.into.items ++ names_in_links (links (map link_of l.list))

abbrev pub invariant-add_in_steps-loop-step : goal.invariant-add_in_steps-loop-step
invariant-add_in_steps-loop-step l = l.into.items ++ names_in_steps (steps (map step_of (drop l.step-index l.list))) ≡ l.fn.into.items ++ names_in_steps (steps (map step_of l.list))
