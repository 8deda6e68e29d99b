use Rattle.std.proofs.Common.{sym, ap, ◌∙◌}
use Rattle.spec_document.specs.Fault.{least}
use Rattle.spec_document.specs.Top.{elements_at_top, element_faults, text_faults, top_faults}
use Rattle.xt_build.specs.Least.{merged}
use Rattle.xt_build.specs.Piece.{forest_in}
use Rattle.xt_build.specs.View.{found_of, pieces_of}
use Rattle.xt_build.proofs.AtTop.{both-found}
use Rattle.xt_build.proofs.top.check_top.Goals as goal

pub returns : goal.returns
returns c =
    let forest = forest_in (pieces_of c.args.pieces.now) in
    let before = found_of c.args.found.now in
    let others = c.in-Some.others in
    c.check_texts.ensures
    ∙ ap (λ found. merged found (least (text_faults forest)))
    (c.check_elements.ensures
    ∙ ap (λ lines. merged before (least (element_faults others lines))) (c.as_slice.ensures.value ∙ c.in_ok-elements.ensures {u = tt}))
    ∙ both-found before (element_faults others (elements_at_top forest)) (text_faults forest)
    ∙ ap (λ o. merged before (least (top_faults o forest))) (sym c.in-Some.is)
