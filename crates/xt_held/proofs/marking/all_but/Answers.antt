use Rattle.std.proofs.Common.{◌≡◌, true, List, take, arith, sym, subst}
use Rattle.std.proofs.lemmas.List.{take_more}
use Rattle.spec_node.specs.declared.node_ref.NodeRef.{NodeRef}
use Rattle.spec_touch.specs.Marks.{is_unit_among}
use Rattle.xt_held.proofs.LeftOut.{still_out}
use Rattle.xt_held.proofs.marking.all_but.Goals as goal

pub loop-element-preserved : goal.loop-element-preserved
loop-element-preserved c =
    let xs = c.args.elements.now in
    let i = c.loop-element.element-index in
    let pushed = c.in_ok-push_unless.ensures in
    record {
      among = λ sought among.
          subst (λ (es : List NodeRef). is_unit_among es sought ≡ true) (sym (take_more xs i _ (omega arith)))
          (pushed.among (take i xs) c.loop-element.invariant.among sought among);
      left_out = still_out c.args.left_out _ _ _ _ c.is_that.ensures pushed.left_out c.loop-element.invariant.left_out;
    }
