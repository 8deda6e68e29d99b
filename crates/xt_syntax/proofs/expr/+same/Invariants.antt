use Rattle.std.proofs.Common.{◌≡◌, map, take}
use Rattle.xt_syntax.specs.View.{expr_of, step_of, link_of}
use Rattle.xt_syntax.proofs.expr.+same.Given as goal

abbrev pub invariant-same_exprs-loop-index : goal.invariant-same_exprs-loop-index
invariant-same_exprs-loop-index l = map expr_of (take l.index l.list) ≡ map expr_of (take l.index l.others)

abbrev pub invariant-same_links-loop-index : goal.invariant-same_links-loop-index
invariant-same_links-loop-index l = map link_of (take l.index l.list) ≡ map link_of (take l.index l.others)

abbrev pub invariant-same_steps-loop-index : goal.invariant-same_steps-loop-index
invariant-same_steps-loop-index l = map step_of (take l.index l.list) ≡ map step_of (take l.index l.others)
