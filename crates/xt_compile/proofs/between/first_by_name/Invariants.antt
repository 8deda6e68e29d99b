use Rattle.std.proofs.Common.{◌≡◌, drop, map}
use Rattle.spec_compile.specs.Sheet as spec
use Rattle.xt_compile.specs.Faulty.{AreFaulty}
use Rattle.xt_scoping.specs.View.{violation_in}
use Rattle.xt_compile.proofs.between.first_by_name.Given as goal

abbrev pub invariant-loop-name : goal.invariant-loop-name
invariant-loop-name l =
    AreFaulty (map violation_in l.fn.violations) l.fn.faulty.keys
    → spec.first_violation (drop l.name-index l.names) (map violation_in l.fn.violations) ≡ spec.first_violation l.names (map violation_in l.fn.violations)
