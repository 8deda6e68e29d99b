use Rattle.std.proofs.Common.{◌≡◌, ◌++◌, drop, map}
use Rattle.spec_stylesheet.specs.Instruction.{instrs, branches, bindings}
use Rattle.spec_run.specs.World.{called_in, called_in_branches, called_in_bindings, used_in, used_in_branches, used_in_bindings}
use Rattle.xt_syntax.specs.InstrView.{instr_of, branch_of, binding_of}
use Rattle.xt_world.proofs.naming.+naming.Given as goal

abbrev pub invariant-in_content-loop-instr : goal.invariant-in_content-loop-instr
invariant-in_content-loop-instr l = record {
  called : l.names.called.items ++ called_in (instrs (map instr_of (drop l.instr-index l.content))) ≡ l.fn.names.called.items ++ called_in (instrs (map instr_of l.content));
  used : l.names.used.items ++ used_in (instrs (map instr_of (drop l.instr-index l.content))) ≡ l.fn.names.used.items ++ used_in (instrs (map instr_of l.content));
}

abbrev pub invariant-in_branches-loop-branch : goal.invariant-in_branches-loop-branch
invariant-in_branches-loop-branch l = record {
  called : l.names.called.items ++ called_in_branches (branches (map branch_of (drop l.branch-index l.list))) ≡ l.fn.names.called.items ++ called_in_branches (branches (map branch_of l.list));
  used : l.names.used.items ++ used_in_branches (branches (map branch_of (drop l.branch-index l.list))) ≡ l.fn.names.used.items ++ used_in_branches (branches (map branch_of l.list));
}

abbrev pub invariant-in_bindings-loop-binding : goal.invariant-in_bindings-loop-binding
invariant-in_bindings-loop-binding l = record {
  called : l.names.called.items ++ called_in_bindings (bindings (map binding_of (drop l.binding-index l.list))) ≡ l.fn.names.called.items ++ called_in_bindings (bindings (map binding_of l.list));
  used : l.names.used.items ++ used_in_bindings (bindings (map binding_of (drop l.binding-index l.list))) ≡ l.fn.names.used.items ++ used_in_bindings (bindings (map binding_of l.list));
}
