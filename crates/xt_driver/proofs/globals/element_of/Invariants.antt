use Rattle.std.proofs.Common.{◌≡◌, map, drop}
use Rattle.spec_run.specs.Meaning.{element_named}
use Rattle.xt_engine.specs.View.{named_of}
use Rattle.xt_driver.proofs.globals.element_of.Given as goal

abbrev pub invariant-loop-global : goal.invariant-loop-global
invariant-loop-global l = element_named l.name (map named_of (drop l.global-index l.named)) ≡ element_named l.name (map named_of l.named)
