use Rattle.std.proofs.Common.{◌≡◌, false, true, take}
use Rattle.std.specs.Prelude.{IfSome}
use Rattle.spec_node.specs.declared.node_ref.NodeRef.{NodeRef}
use Rattle.spec_touch.specs.Marks.{is_unit_among}
use Rattle.xt_held.proofs.marking.all_but.Given as goal

abbrev pub invariant-loop-element : goal.invariant-loop-element
invariant-loop-element l = record {
  among : (sought : NodeRef) → is_unit_among l.list.items sought ≡ true → is_unit_among (take l.element-index l.elements) sought ≡ true;
  left_out : IfSome l.left_out (λ one. is_unit_among l.list.items one ≡ false);
}
