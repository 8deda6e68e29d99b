use Rattle.std.proofs.Common.{map, take}
use Rattle.xt_scoping.specs.View.{violation_in}
use Rattle.xt_compile.specs.Faulty.{AreFaulty}
use Rattle.xt_compile.proofs.between.faulty_modules.Given as goal

abbrev pub invariant-loop-violation : goal.invariant-loop-violation
invariant-loop-violation l = AreFaulty (map violation_in (take l.violation-index l.violations)) l.faulty.keys
