use Rattle.std.proofs.Common.{List, ap, sym, ◌∙◌}
use Rattle.std.proofs.lemmas.Result.{IfOk-weaker}
use Rattle.spec_node.specs.declared.node_ref.NodeRef.{NodeRef}
use Rattle.spec_touch.specs.Marks.{is_unit_among}
use Rattle.xt_held.proofs.LeftOut.{one_is_left_out, out_of_same}
use Rattle.xt_held.proofs.marking.units_alike.Goals as goal

pub returns-clause-alike : goal.returns-clause-alike
returns-clause-alike c =
    IfOk-weaker c.of.result _ _ (λ units same element m.
    c.in_ok-elements.ensures.same element (ap (λ (es : List NodeRef). is_unit_among es element) (sym c.as_slice.ensures.value)
    ∙ c.in_ok-spared.ensures.among element (ap (λ (es : List NodeRef). is_unit_among es element) (sym c.as_slice-2.ensures.value) ∙ sym (same element) ∙ m)))
    c.of.ensures

pub returns-clause-left_out : goal.returns-clause-left_out
returns-clause-left_out c =
    let unit = c.last_unit.result in
    IfOk-weaker c.of.result _ _ (λ units same.
    one_is_left_out c.args.records.now unit units c.last_unit.ensures.asked c.last_unit.ensures.none
    (out_of_same unit units c.in_ok-spared.spared.items
    (λ element. same element ∙ ap (λ (es : List NodeRef). is_unit_among es element) c.as_slice-2.ensures.value) c.in_ok-spared.ensures.left_out))
    c.of.ensures
