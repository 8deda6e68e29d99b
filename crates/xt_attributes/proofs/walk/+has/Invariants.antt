use Rattle.std.proofs.Common.{◌≡◌, map, drop}
use Rattle.spec_compile.specs.Walk.{has_one, has_link, has_step}
use Rattle.spec_expression.specs.Syntax.{exprs, links, steps}
use Rattle.xt_syntax.specs.View.{expr_of, link_of, step_of}
use Rattle.xt_attributes.specs.Sought.{sought_in}
use Rattle.xt_attributes.proofs.walk.+has.Given as goal

abbrev pub invariant-has_one-loop-expr : goal.invariant-has_one-loop-expr
invariant-has_one-loop-expr l = has_one (sought_in l.sought) (exprs (map expr_of (drop l.expr-index l.list))) ≡ has_one (sought_in l.sought) (exprs (map expr_of l.list))

abbrev pub invariant-has_link-loop-link : goal.invariant-has_link-loop-link
invariant-has_link-loop-link l = has_link (sought_in l.sought) (links (map link_of (drop l.link-index l.list))) ≡ has_link (sought_in l.sought) (links (map link_of l.list))

abbrev pub invariant-has_step-loop-step : goal.invariant-has_step-loop-step
invariant-has_step-loop-step l = has_step (sought_in l.sought) (steps (map step_of (drop l.step-index l.list))) ≡ has_step (sought_in l.sought) (steps (map step_of l.list))
