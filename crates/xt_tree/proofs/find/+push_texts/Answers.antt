use Rattle.std.proofs.Common.{◌++◌, ◌∙◌, sym, arith, append_assoc}
use Rattle.std.proofs.lemmas.List.{at_drop_more}
use Rattle.spec_document.specs.Forest.{texts_in}
use Rattle.xt_tree.specs.View.{forest_of}
use Rattle.xt_tree.proofs.Views.{view-Node}
use Rattle.xt_tree.proofs.find.+push_texts.Goals as goal

pub loop-sibling-preserved : goal.loop-sibling-preserved
loop-sibling-preserved t c =
    let at = sym (at_drop_more (λ rest. c.loop-sibling.text ++ texts_in (forest_of rest)) c.args.siblings.now c.loop-sibling.sibling-index
    c.sibling-item.result (omega arith)) ∙ c.loop-sibling.invariant in
    let here = rw (← c.sibling-item.is) at at in
    rw (
      c.in_ok-push_texts.ensures,
      c.in_ok-push_own_text.ensures,
      c.as_slice.ensures.value,
      c.content.ensures,
      c.deref.ensures,
      c.deref-in-loop-sibling.ensures,
      view-Node c.sibling-item.result.value,
      append_assoc,
      append_assoc,
    ) (rw (view-Node c.sibling-item.result.value, append_assoc) at here)
