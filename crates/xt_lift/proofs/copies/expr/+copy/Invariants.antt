use Rattle.std.proofs.Common.{◌≡◌, map, take}
use Rattle.xt_syntax.specs.View.{expr_of, link_of, step_of}
use Rattle.xt_lift.proofs.copies.expr.+copy.Given as goal

abbrev pub invariant-copy_exprs-loop-expr : goal.invariant-copy_exprs-loop-expr
invariant-copy_exprs-loop-expr l = map expr_of l.copies.items ≡ map expr_of (take l.expr-index l.list)

abbrev pub invariant-copy_links-loop-link : goal.invariant-copy_links-loop-link
invariant-copy_links-loop-link l = map link_of l.copies.items ≡ map link_of (take l.link-index l.list)

abbrev pub invariant-copy_steps-loop-step : goal.invariant-copy_steps-loop-step
invariant-copy_steps-loop-step l = map step_of l.copies.items ≡ map step_of (take l.step-index l.list)
