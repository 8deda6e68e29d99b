use Rattle.std.proofs.Common.{◌≡◌}
use Rattle.spec_meaning.specs.Meaning.{signed}
use Rattle.xp_eval.proofs.pick.signed.Given as goal

abbrev pub invariant-loop : goal.invariant-loop
invariant-loop l = l.value ≡ signed l.counter l.fn.number
