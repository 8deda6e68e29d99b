use Rattle.std.proofs.Common.{take}
use Rattle.xt_world.specs.Alike.{AreAlike}
use Rattle.xt_world.proofs.common.same_units.Given as goal

abbrev pub invariant-loop-element : goal.invariant-loop-element
invariant-loop-element l = AreAlike l.one l.other (take l.element-index l.other.elements.items) l.list.items
