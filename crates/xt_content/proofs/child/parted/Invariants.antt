use Rattle.std.proofs.Common.{◌≡◌}
use Rattle.xt_content.specs.Kind.{parted}
use Rattle.xt_content.specs.View.{added, children_in, parts_in}
use Rattle.xt_content.proofs.child.parted.Given as goal

abbrev pub invariant-loop-child : goal.invariant-loop-child
invariant-loop-child l = added (parts_in l.parts) (parted (children_in l.child-iterator.rest.items)) ≡ parted (children_in l.fn.children.items)
