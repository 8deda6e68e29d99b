use Rattle.std.proofs.Common.{◌++◌, drop}
use Rattle.xt_touch.specs.Sets.{AreSameElements}
use Rattle.xt_touch.proofs.elements.Elements.of.Given as goal

abbrev pub invariant-loop-element : goal.invariant-loop-element
invariant-loop-element l = AreSameElements (l.set ++ drop l.element-index l.elements) l.elements
