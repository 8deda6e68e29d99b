use Rattle.std.proofs.Common.{◌≡◌, map, take}
use Rattle.xt_syntax.specs.InstrView.{instr_of, branch_of, binding_of}
use Rattle.xt_syntax.proofs.instr.+same.Given as goal

abbrev pub invariant-same_instrs-loop-index : goal.invariant-same_instrs-loop-index
invariant-same_instrs-loop-index l = map instr_of (take l.index l.list) ≡ map instr_of (take l.index l.others)

abbrev pub invariant-same_branches-loop-index : goal.invariant-same_branches-loop-index
invariant-same_branches-loop-index l = map branch_of (take l.index l.list) ≡ map branch_of (take l.index l.others)

abbrev pub invariant-same_bindings-loop-index : goal.invariant-same_bindings-loop-index
invariant-same_bindings-loop-index l = map binding_of (take l.index l.list) ≡ map binding_of (take l.index l.others)
