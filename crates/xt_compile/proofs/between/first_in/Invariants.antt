use Rattle.std.proofs.Common.{◌≡◌, ◌≤◌, length, drop, map}
use Rattle.std.specs.List.{filter}
use Rattle.spec_compile.specs.Sheet as spec
use Rattle.xt_scoping.specs.View.{violation_in}
use Rattle.xt_structure.specs.View.{faults_in}
use Rattle.xt_compile.proofs.between.first_in.Given as goal

abbrev pub invariant-loop-left : goal.invariant-loop-left
invariant-loop-left l = record {
  within : l.left ≤ length l.violations;
  first : faults_in l.first ≡ spec.first_in (filter (spec.is_in l.fn.name) (map violation_in (drop l.left l.violations)));
}

abbrev pub decreases-loop-left : goal.decreases-loop-left
decreases-loop-left l = l.left
