use Rattle.std.proofs.Common.{[], ◌∷◌, ap, ◌∙◌, arith}
use Rattle.spec_document.specs.Forest.{followed}
use Rattle.xt_tree.specs.View.{forest_of}
use Rattle.xt_strip.proofs.Siblings.{one_more}
use Rattle.xt_strip.proofs.walk.shared.Goals as goal

pub loop-sibling-preserved : goal.loop-sibling-preserved
loop-sibling-preserved c =
    c.in_ok-push_shared.ensures ∙ ap (λ f. followed f (forest_of (c.sibling-item.result ∷ []))) c.loop-sibling.invariant
    ∙ one_more c.args.siblings.now c.loop-sibling.sibling-index c.sibling-item.result (omega arith) c.sibling-item.is
