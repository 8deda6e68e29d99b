use Rattle.std.proofs.Common.{◌≡◌, ◌++◌, drop, map}
use Rattle.spec_stylesheet.specs.Instruction.{bindings}
use Rattle.spec_items.specs.Lifted.{left_taken, scope_of, items_in_taken}
use Rattle.xt_syntax.specs.InstrView.{binding_of}
use Rattle.xt_syntax.specs.SheetView.{unit_of}
use Rattle.xt_lift.proofs.Kept.{kept_bindings}
use Rattle.xt_lift.proofs.units.left_taken.Given as goal

abbrev pub invariant-loop-binding : goal.invariant-loop-binding
invariant-loop-binding l = record {
  left : kept_bindings (map binding_of l.left.items) (left_taken l.scope.items (bindings (map binding_of (drop l.binding-index l.list)))) ≡ left_taken l.fn.scope.items (bindings (map binding_of l.list));
  scope : scope_of l.scope.items (bindings (map binding_of (drop l.binding-index l.list))) ≡ scope_of l.fn.scope.items (bindings (map binding_of l.list));
  items :
      map unit_of l.items.items ++ items_in_taken l.precedence l.scope.items (bindings (map binding_of (drop l.binding-index l.list)))
      ≡ map unit_of l.fn.items.items ++ items_in_taken l.precedence l.fn.scope.items (bindings (map binding_of l.list));
}
