use Rattle.std.proofs.Common.{◌≡◌, map, drop}
use Rattle.xt_driver.specs.View.{held_of}
use Rattle.xt_driver.specs.Remembered.{first_named}
use Rattle.xt_driver.proofs.globals.value_of_past.Given as goal

abbrev pub invariant-loop-global : goal.invariant-loop-global
invariant-loop-global l = first_named l.name (map held_of (drop l.global-index l.held)) ≡ first_named l.name (map held_of l.held)
