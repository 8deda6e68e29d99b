use Rattle.xt_scoping.specs.View.{found_in}
use Rattle.xt_scoping.proofs.Turning.{IsProgress}
use Rattle.xt_scoping.proofs.violation.violations_with.Given as goal

abbrev pub invariant-loop-element : goal.invariant-loop-element
invariant-loop-element l = IsProgress l.ranked l.element-index (found_in l.found.items) l.earlier
