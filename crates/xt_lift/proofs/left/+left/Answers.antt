use Rattle.std.proofs.Common.{◌≡◌, ◌++◌, List, map, false, refl, ap, sym, ◌∙◌, arith, rules}
use Rattle.std.proofs.lemmas.Result.{IfOk-weaker}
use Rattle.spec_stylesheet.specs.Instruction.{instrs, branches, bindings}
use Rattle.spec_items.specs.Lifted.{scope_after, items_in, items_in_branches, items_in_passed}
use Rattle.xt_syntax.specs.InstrView.{instr_of, branch_of, binding_of}
use Rattle.xt_syntax.specs.SheetView.{unit_of}
use Rattle.xt_syntax.specs.declared.instr.Instr.{fold_out-Instr}
use Rattle.xt_syntax.specs.declared.instr.Branch.{Branch}
use Rattle.xt_syntax.specs.declared.instr.Binding.{Binding}
use Rattle.xt_lift.specs.Left.{left_instr, left_branch, left_binding, items_in_instr}
use Rattle.xt_lift.specs.Loops.{has_loop}
use Rattle.xt_lift.proofs.Next.{next_added}
use Rattle.xt_lift.proofs.Same.{same_content, none_in, none_added, on_any}
use Rattle.xt_lift.proofs.Walked.{seen_more, next_kept, last_kept, next_items, next_kept_branches, last_kept_branches, next_kept_passed, last_kept_passed}
use Rattle.xt_lift.proofs.left.+left.Goals as goal

pub left_content-returns-then-not-has_loop-clause-left : goal.left_content-returns-then-not-has_loop-clause-left
left_content-returns-then-not-has_loop-clause-left t c =
    let is = instrs (map instr_of c.args.content.now.value.items) in
    let none : has_loop is ≡ false = rw (c.as_slice.ensures.value, c.deref.ensures) at (sym c.has_loop.ensures ∙ c.if-not-has_loop.true) in
    IfOk-weaker c.share_content.result _ _ (λ shared e. ap (λ v. instrs (map instr_of v.items)) e ∙ sym (same_content c.args.scope.now is none)) c.share_content.ensures

pub left_content-returns-then-not-has_loop-clause-units : goal.left_content-returns-then-not-has_loop-clause-units
left_content-returns-then-not-has_loop-clause-units t c =
    let is = instrs (map instr_of c.args.content.now.value.items) in
    let none : has_loop is ≡ false = rw (c.as_slice.ensures.value, c.deref.ensures) at (sym c.has_loop.ensures ∙ c.if-not-has_loop.true) in
    on_any c.share_content.result (none_added (map unit_of c.args.units.now.items) (items_in c.args.precedence c.args.scope.now is) (none_in c.args.precedence c.args.scope.now is none))

pub left_instrs-loop-instr-preserved : goal.left_instrs-loop-instr-preserved
left_instrs-loop-instr-preserved t c =
    let item = c.instr-item.result in
    let i = c.loop-instr.instr-index in
    let known = c.loop-instr.known.items in
    let next = c.bring.new.scope.items in
    let after : next ≡ scope_after known (instr_of item).form = search (rules, fold_out-Instr) in
    let made : instr_of c.in_ok-left_instr.field-0 ≡ left_instr known (instr_of item) = rw c.as_slice.ensures.value at c.in_ok-left_instr.ensures.left in
    let added : map unit_of c.left_instr.new.units.items ≡ map unit_of c.loop-instr.units.items ++ items_in_instr c.args.precedence known (instr_of item)
    = rw c.as_slice.ensures.value at c.in_ok-left_instr.ensures.units in
    let pushed = seen_more instr_of c.loop-instr.left.items c.push.new.self.items c.in_ok-left_instr.field-0 (left_instr known (instr_of item)) c.in_ok-push.ensures.items made in
    record {
      left =
          next_kept instr_of c.args.content.now i item (map instr_of c.loop-instr.left.items) (map instr_of c.push.new.self.items) known next (omega arith)
          c.instr-item.is pushed after c.loop-instr.invariant.left;
      units =
          next_items instr_of c.args.precedence c.args.content.now i item (map unit_of c.loop-instr.units.items) (map unit_of c.left_instr.new.units.items) known next
          (omega arith) c.instr-item.is added after c.loop-instr.invariant.units;
    }

pub left_instrs-returns-clause-left : goal.left_instrs-returns-clause-left
left_instrs-returns-clause-left t c =
    last_kept instr_of c.args.content.now c.loop-instr.instr-index (map instr_of c.loop-instr.left.items) c.loop-instr.known.items (omega arith) c.loop-instr.invariant.left

pub left_branches-loop-branch-preserved : goal.left_branches-loop-branch-preserved
left_branches-loop-branch-preserved t c =
    let item = c.branch-item.result in
    let i = c.loop-branch.branch-index in
    let scope = c.args.scope.now in
    let pushed = seen_more branch_of c.loop-branch.left.items c.push.new.self.items c.in_ok-left_branch.field-0 (left_branch scope (branch_of item)) c.in_ok-push.ensures.items c.in_ok-left_branch.ensures.left in
    record {
      left =
          next_kept_branches branch_of c.args.list.now i item (map branch_of c.loop-branch.left.items) (map branch_of c.push.new.self.items) scope (omega arith)
          c.branch-item.is pushed c.loop-branch.invariant.left;
      units =
          next_added (λ (bs : List Branch). items_in_branches c.args.precedence scope (branches (map branch_of bs))) (λ b. items_in c.args.precedence scope (branch_of b).content)
          c.args.list.now i item (map unit_of c.loop-branch.units.items) (map unit_of c.left_branch.new.units.items) (λ left. refl) (omega arith) c.branch-item.is
          c.in_ok-left_branch.ensures.units c.loop-branch.invariant.units;
    }

pub left_branches-returns-clause-left : goal.left_branches-returns-clause-left
left_branches-returns-clause-left t c =
    last_kept_branches branch_of c.args.list.now c.loop-branch.branch-index (map branch_of c.loop-branch.left.items) c.args.scope.now (omega arith) c.loop-branch.invariant.left

pub left_all-loop-binding-preserved : goal.left_all-loop-binding-preserved
left_all-loop-binding-preserved t c =
    let item = c.binding-item.result in
    let i = c.loop-binding.binding-index in
    let scope = c.args.scope.now in
    let pushed = seen_more binding_of c.loop-binding.left.items c.push.new.self.items c.in_ok-left_binding.field-0 (left_binding scope (binding_of item)) c.in_ok-push.ensures.items c.in_ok-left_binding.ensures.left in
    record {
      left =
          next_kept_passed binding_of c.args.list.now i item (map binding_of c.loop-binding.left.items) (map binding_of c.push.new.self.items) scope (omega arith)
          c.binding-item.is pushed c.loop-binding.invariant.left;
      units =
          next_added (λ (bs : List Binding). items_in_passed c.args.precedence scope (bindings (map binding_of bs))) (λ b. items_in c.args.precedence scope (binding_of b).content)
          c.args.list.now i item (map unit_of c.loop-binding.units.items) (map unit_of c.left_binding.new.units.items) (λ left. refl) (omega arith) c.binding-item.is
          c.in_ok-left_binding.ensures.units c.loop-binding.invariant.units;
    }

pub left_all-returns-clause-left : goal.left_all-returns-clause-left
left_all-returns-clause-left t c =
    last_kept_passed binding_of c.args.list.now c.loop-binding.binding-index (map binding_of c.loop-binding.left.items) c.args.scope.now (omega arith) c.loop-binding.invariant.left
