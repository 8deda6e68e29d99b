use Rattle.std.proofs.Common.{◌≡◌}
use Rattle.spec_format.specs.Format as spec
use Rattle.xt_number_format.proofs.cut.split.Given as goal

abbrev pub invariant-loop-character : goal.invariant-loop-character
invariant-loop-character l = l.cut ≡ spec.cut l.yielded
