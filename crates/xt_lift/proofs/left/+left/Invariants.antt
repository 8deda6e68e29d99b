use Rattle.std.proofs.Common.{◌≡◌, ◌++◌, drop, map}
use Rattle.spec_stylesheet.specs.Instruction.{instrs, branches, bindings}
use Rattle.spec_items.specs.Lifted.{left_in, left_in_branches, left_passed, items_in, items_in_branches, items_in_passed}
use Rattle.xt_syntax.specs.InstrView.{instr_of, branch_of, binding_of}
use Rattle.xt_syntax.specs.SheetView.{unit_of}
use Rattle.xt_lift.proofs.Kept.{kept, kept_branches, kept_bindings}
use Rattle.xt_lift.proofs.left.+left.Given as goal

abbrev pub invariant-left_instrs-loop-instr : goal.invariant-left_instrs-loop-instr
invariant-left_instrs-loop-instr l = record {
  left : kept (map instr_of l.left.items) (left_in l.known.items (instrs (map instr_of (drop l.instr-index l.content)))) ≡ left_in l.scope (instrs (map instr_of l.content));
  units :
      map unit_of l.units.items ++ items_in l.precedence l.known.items (instrs (map instr_of (drop l.instr-index l.content)))
      ≡ map unit_of l.fn.units.items ++ items_in l.precedence l.scope (instrs (map instr_of l.content));
}

abbrev pub invariant-left_branches-loop-branch : goal.invariant-left_branches-loop-branch
invariant-left_branches-loop-branch l = record {
  left : kept_branches (map branch_of l.left.items) (left_in_branches l.scope (branches (map branch_of (drop l.branch-index l.list)))) ≡ left_in_branches l.scope (branches (map branch_of l.list));
  units :
      map unit_of l.units.items ++ items_in_branches l.precedence l.scope (branches (map branch_of (drop l.branch-index l.list)))
      ≡ map unit_of l.fn.units.items ++ items_in_branches l.precedence l.scope (branches (map branch_of l.list));
}

abbrev pub invariant-left_all-loop-binding : goal.invariant-left_all-loop-binding
invariant-left_all-loop-binding l = record {
  left : kept_bindings (map binding_of l.left.items) (left_passed l.scope (bindings (map binding_of (drop l.binding-index l.list)))) ≡ left_passed l.scope (bindings (map binding_of l.list));
  units :
      map unit_of l.units.items ++ items_in_passed l.precedence l.scope (bindings (map binding_of (drop l.binding-index l.list)))
      ≡ map unit_of l.fn.units.items ++ items_in_passed l.precedence l.scope (bindings (map binding_of l.list));
}
