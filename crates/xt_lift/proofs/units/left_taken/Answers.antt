use Rattle.std.proofs.Common.{◌≡◌, ◌∷◌, ◌++◌, map, arith, rules}
use Rattle.spec_items.specs.Lifted.{items_in}
use Rattle.xt_syntax.specs.InstrView.{binding_of}
use Rattle.xt_syntax.specs.SheetView.{unit_of}
use Rattle.xt_syntax.specs.declared.instr.Binding.{fold_out-Binding}
use Rattle.xt_lift.specs.Left.{left_binding}
use Rattle.xt_lift.proofs.Walked.{seen_more, next_kept_taken, last_kept_taken, next_scope_taken, next_items_taken}
use Rattle.xt_lift.proofs.units.left_taken.Goals as goal

pub loop-binding-preserved : goal.loop-binding-preserved
loop-binding-preserved c =
    let item = c.binding-item.result in
    let i = c.loop-binding.binding-index in
    let scope = c.loop-binding.scope.items in
    let next = c.bring_name.new.scope.items in
    let after : next ≡ (binding_of item).name ∷ scope = search (rules, fold_out-Binding) in
    let made : binding_of c.in_ok-left_binding.field-0 ≡ left_binding scope (binding_of item) = rw c.as_slice.ensures.value at c.in_ok-left_binding.ensures.left in
    let added : map unit_of c.left_binding.new.units.items ≡ map unit_of c.loop-binding.items.items ++ items_in c.args.precedence scope (binding_of item).content
    = rw c.as_slice.ensures.value at c.in_ok-left_binding.ensures.units in
    let pushed = seen_more binding_of c.loop-binding.left.items c.push.new.self.items c.in_ok-left_binding.field-0 (left_binding scope (binding_of item)) c.in_ok-push.ensures.items made in
    record {
      left =
          next_kept_taken binding_of c.args.list.now i item (map binding_of c.loop-binding.left.items) (map binding_of c.push.new.self.items) scope next (omega arith)
          c.binding-item.is pushed after c.loop-binding.invariant.left;
      scope = next_scope_taken binding_of c.args.list.now i item scope next (omega arith) c.binding-item.is after c.loop-binding.invariant.scope;
      items =
          next_items_taken binding_of c.args.precedence c.args.list.now i item (map unit_of c.loop-binding.items.items) (map unit_of c.left_binding.new.units.items) scope next
          (omega arith) c.binding-item.is added after c.loop-binding.invariant.items;
    }

pub returns-clause-left : goal.returns-clause-left
returns-clause-left c =
    last_kept_taken binding_of c.args.list.now c.loop-binding.binding-index (map binding_of c.loop-binding.left.items) c.loop-binding.scope.items (omega arith) c.loop-binding.invariant.left
