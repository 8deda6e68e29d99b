use Rattle.std.proofs.Common.{ap, ◌∙◌}
use Rattle.std.proofs.lemmas.Result.{IfOk-weaker}
use Rattle.xt_edit.specs.Telling.{numbers_in}
use Rattle.xt_touch.specs.Loose.{loose_among}
use Rattle.xt_touch.proofs.Loosening.{loose_below}
use Rattle.xt_touch.proofs.children.loose_children.Goals as goal

pub returns : goal.returns
returns c =
    IfOk-weaker c.no_elements.result _ _ (λ list is.
    loose_below c.args.node.number c.args.document.now (numbers_in list.items) c.distinct_numbers.ensures
    (is ∙ ap loose_among c.children_at.ensures)) c.no_elements.ensures
