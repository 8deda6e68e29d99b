use Rattle.std.proofs.Common.{◌≡◌, drop}
use Rattle.xt_world.specs.KeyView.{found_for}
use Rattle.xt_world.proofs.found.found_for.Given as goal

abbrev pub invariant-loop-known : goal.invariant-loop-known
invariant-loop-known l = found_for (drop l.known-index l.keys) l.name ≡ found_for l.keys l.name
