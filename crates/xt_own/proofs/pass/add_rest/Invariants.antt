use Rattle.std.proofs.Common.{drop}
use Rattle.xt_own.specs.Keys.{Skips}
use Rattle.xt_own.proofs.pass.add_rest.Given as goal

abbrev pub invariant-loop-next : goal.invariant-loop-next
invariant-loop-next l = record {
  skips : Skips l.fn.but.items (drop l.passed l.before) l.but.items (drop l.next l.before);
}
