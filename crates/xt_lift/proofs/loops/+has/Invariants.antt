use Rattle.std.proofs.Common.{◌≡◌, drop, map}
use Rattle.spec_stylesheet.specs.Instruction.{instrs, branches, bindings}
use Rattle.xt_syntax.specs.InstrView.{instr_of, branch_of, binding_of}
use Rattle.xt_lift.specs.Loops.{has_loop, has_loop_in_branches, has_loop_passed}
use Rattle.xt_lift.proofs.loops.+has.Given as goal

abbrev pub invariant-has_loop-loop-instr : goal.invariant-has_loop-loop-instr
invariant-has_loop-loop-instr l = has_loop (instrs (map instr_of (drop l.instr-index l.content))) ≡ has_loop (instrs (map instr_of l.content))

abbrev pub invariant-in_branches-loop-branch : goal.invariant-in_branches-loop-branch
invariant-in_branches-loop-branch l = has_loop_in_branches (branches (map branch_of (drop l.branch-index l.list))) ≡ has_loop_in_branches (branches (map branch_of l.list))

abbrev pub invariant-in_bindings-loop-binding : goal.invariant-in_bindings-loop-binding
invariant-in_bindings-loop-binding l = has_loop_passed (bindings (map binding_of (drop l.binding-index l.list))) ≡ has_loop_passed (bindings (map binding_of l.list))
