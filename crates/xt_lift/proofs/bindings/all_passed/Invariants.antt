use Rattle.std.proofs.Common.{◌≡◌, ◌++◌, drop, map}
use Rattle.xt_syntax.specs.InstrView.{binding_of}
use Rattle.xt_syntax.specs.PartView.{site_of}
use Rattle.xt_lift.specs.Parameters.{passed}
use Rattle.xt_lift.proofs.bindings.all_passed.Given as goal

abbrev pub invariant-loop-name : goal.invariant-loop-name
invariant-loop-name l = map binding_of l.list.items ++ map (passed (site_of l.site)) (drop l.name-index l.names) ≡ map (passed (site_of l.site)) l.names
