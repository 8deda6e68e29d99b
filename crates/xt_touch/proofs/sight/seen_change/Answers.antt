use Rattle.std.proofs.Common.{sym, ap, subst, ◌∙◌}
use Rattle.std.specs.List.{filter}
use Rattle.spec_document.specs.Forest.{labels}
use Rattle.spec_change.specs.Change.{is_among}
use Rattle.spec_touch.specs.Leads.{AreTold}
use Rattle.xt_edit.specs.Telling.{change_in, numbers_in}
use Rattle.xt_tree.specs.View.{forest_of}
use Rattle.xt_touch.specs.Missing.{missing_among}
use Rattle.xt_touch.proofs.Leading.{lacks_below, lacked_below}
use Rattle.xt_touch.proofs.Siblings.{children_told}
use Rattle.xt_touch.proofs.sight.seen_change.Goals as goal

pub returns : goal.returns
returns c leads =
    let change = change_in c.args.change.now in
    let old = c.args.old.now in
    let new = c.args.new.now in
    let told_old : AreTold (labels old.nodes) (forest_of c.children_at-were.result.now) =
    subst (AreTold (labels old.nodes)) (sym c.children_at-were.ensures) (children_told change.node old) in
    let told_new : AreTold (labels new.nodes) (forest_of c.children_at-are.result.now) =
    subst (AreTold (labels new.nodes)) (sym c.children_at-are.ensures) (children_told change.node new) in
    let above = ap numbers_in (c.in_ok-above.ensures.items ∙ c.as_slice.ensures.value) in
    let before =
    c.in_ok-before.ensures told_old ∙ ap (λ ns. filter (is_among (labels old.nodes)) (numbers_in ns)) c.as_slice-2.ensures.value in
    let after =
    c.in_ok-after.ensures told_new ∙ ap (λ ns. filter (is_among (labels new.nodes)) (numbers_in ns)) c.as_slice-3.ensures.value in
    let gone =
    c.in_ok-gone.ensures ∙ c.differing.ensures (labels new.nodes) told_new ∙ ap (missing_among (labels new.nodes)) c.children_at-were.ensures
    ∙ sym (lacks_below change old new c.distinct_numbers.ensures leads) in
    let brought =
    c.in_ok-brought.ensures ∙ c.differing-2.ensures (labels old.nodes) told_old ∙ ap (missing_among (labels old.nodes)) c.children_at-are.ensures
    ∙ sym (lacked_below change old new c.distinct_numbers-2.ensures leads) in
    λ i. record {
      of_attributes = change.of_attributes;
      node = change.node;
      above = above i;
      before = before i;
      after = after i;
      gone = gone i;
      brought = brought i;
    }
