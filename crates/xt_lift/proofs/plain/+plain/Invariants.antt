use Rattle.std.proofs.Common.{◌≡◌, drop, map}
use Rattle.spec_stylesheet.specs.Instruction.{instrs, branches, bindings}
use Rattle.spec_items.specs.Liftable.{is_plain, are_plain_branches, are_plain_bindings}
use Rattle.xt_syntax.specs.InstrView.{instr_of, branch_of, binding_of}
use Rattle.xt_lift.proofs.plain.+plain.Given as goal

abbrev pub invariant-is_plain-loop-instr : goal.invariant-is_plain-loop-instr
invariant-is_plain-loop-instr l = is_plain (instrs (map instr_of (drop l.instr-index l.content))) ≡ is_plain (instrs (map instr_of l.content))

abbrev pub invariant-are_plain_branches-loop-branch : goal.invariant-are_plain_branches-loop-branch
invariant-are_plain_branches-loop-branch l = are_plain_branches (branches (map branch_of (drop l.branch-index l.list))) ≡ are_plain_branches (branches (map branch_of l.list))

abbrev pub invariant-are_plain_bindings-loop-binding : goal.invariant-are_plain_bindings-loop-binding
invariant-are_plain_bindings-loop-binding l = are_plain_bindings (bindings (map binding_of (drop l.binding-index l.list))) ≡ are_plain_bindings (bindings (map binding_of l.list))
