use Rattle.std.proofs.Common.{◌≡◌, ◌++◌, drop, map}
use Rattle.spec_stylesheet.specs.Instruction.{instrs, branches, bindings}
use Rattle.spec_items.specs.Mentioned.{mentioned_in, mentioned_in_branches, mentioned_in_bindings}
use Rattle.xt_syntax.specs.InstrView.{instr_of, branch_of, binding_of}
use Rattle.xt_lift.proofs.mentioned.+mention.Given as goal

abbrev pub invariant-add_mentioned-loop-instr : goal.invariant-add_mentioned-loop-instr
invariant-add_mentioned-loop-instr l =
    l.into.items ++ mentioned_in (instrs (map instr_of (drop l.instr-index l.content))) ≡ l.fn.into.items ++ mentioned_in (instrs (map instr_of l.content))

abbrev pub invariant-in_branches-loop-branch : goal.invariant-in_branches-loop-branch
invariant-in_branches-loop-branch l =
    l.into.items ++ mentioned_in_branches (branches (map branch_of (drop l.branch-index l.list))) ≡ l.fn.into.items ++ mentioned_in_branches (branches (map branch_of l.list))

abbrev pub invariant-in_bindings-loop-binding : goal.invariant-in_bindings-loop-binding
invariant-in_bindings-loop-binding l =
    l.into.items ++ mentioned_in_bindings (bindings (map binding_of (drop l.binding-index l.list))) ≡ l.fn.into.items ++ mentioned_in_bindings (bindings (map binding_of l.list))
