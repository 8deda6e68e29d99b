use Rattle.std.proofs.Common.{List, map, refl, sym, append_assoc, arith, rules}
use Rattle.spec_stylesheet.specs.Instruction.{instrs, branches, bindings}
use Rattle.spec_items.specs.Mentioned.{names_if, mentioned_by, mentioned_in, mentioned_in_branches, mentioned_in_bindings}
use Rattle.xt_syntax.specs.InstrView.{instr_of, branch_of, binding_of}
use Rattle.xt_syntax.specs.declared.instr.Instr.{Instr, fold_out-Instr}
use Rattle.xt_syntax.specs.declared.instr.Branch.{Branch}
use Rattle.xt_syntax.specs.declared.instr.Binding.{Binding}
use Rattle.xt_lift.specs.Names.{branch_names, binding_names}
use Rattle.xt_lift.proofs.Next.{next_added}
use Rattle.xt_lift.proofs.mentioned.+mention.Goals as goal

pub add_mentioned-loop-instr-preserved : goal.add_mentioned-loop-instr-preserved
add_mentioned-loop-instr-preserved t c =
    next_added (λ (is : List Instr). mentioned_in (instrs (map instr_of is))) (λ i. mentioned_by (instr_of i).form) c.args.content.now c.loop-instr.instr-index
    c.instr-item.result c.loop-instr.into.items c.in_form.new.into.items (λ left. refl) (omega arith) c.instr-item.is (search (rules, fold_out-Instr)) c.loop-instr.invariant

pub in_branches-loop-branch-preserved : goal.in_branches-loop-branch-preserved
in_branches-loop-branch-preserved t c =
    next_added (λ (bs : List Branch). mentioned_in_branches (branches (map branch_of bs))) (λ b. branch_names (branch_of b)) c.args.list.now c.loop-branch.branch-index
    c.branch-item.result c.loop-branch.into.items c.in_branch.new.into.items
    (λ left. sym (append_assoc (names_if (branch_of c.branch-item.result).test) (mentioned_in (branch_of c.branch-item.result).content) (mentioned_in_branches (branches (map branch_of left)))))
    (omega arith) c.branch-item.is c.in_ok-in_branch.ensures c.loop-branch.invariant

pub in_bindings-loop-binding-preserved : goal.in_bindings-loop-binding-preserved
in_bindings-loop-binding-preserved t c =
    next_added (λ (bs : List Binding). mentioned_in_bindings (bindings (map binding_of bs))) (λ b. binding_names (binding_of b)) c.args.list.now c.loop-binding.binding-index
    c.binding-item.result c.loop-binding.into.items c.in_binding.new.into.items
    (λ left. sym (append_assoc (names_if (binding_of c.binding-item.result).select) (mentioned_in (binding_of c.binding-item.result).content) (mentioned_in_bindings (bindings (map binding_of left)))))
    (omega arith) c.binding-item.is c.in_ok-in_binding.ensures c.loop-binding.invariant
