use Rattle.std.proofs.Common.{◌+◌, [], ◌∷◌, drop, sym, ap, ◌∙◌, arith}
use Rattle.std.proofs.lemmas.List.{at_drop_more, at_drop_all}
use Rattle.spec_document.specs.Forest.{followed}
use Rattle.xt_tree.specs.View.{forest_of}
use Rattle.xt_tree.proofs.Renumbered.{followed-Empty, followed-assoc}
use Rattle.xt_strip.proofs.along.push_all.Goals as goal

pub loop-sibling-preserved : goal.loop-sibling-preserved
loop-sibling-preserved c =
    let old = c.loop-sibling.nodes in
    let rest = drop (c.loop-sibling.sibling-index + 1) c.args.siblings.now in
    let at = sym (at_drop_more (λ xs. followed old (forest_of xs)) c.args.siblings.now c.loop-sibling.sibling-index c.sibling-item.result (omega arith))
    ∙ c.loop-sibling.invariant in
    let here = rw (← c.sibling-item.is) at at in
    ap (λ f. followed f (forest_of rest)) c.in_ok-push_shared.ensures
    ∙ followed-assoc old (forest_of (c.sibling-item.result ∷ [])) (forest_of rest) ∙ here

pub returns : goal.returns
returns c =
    let nodes = c.loop-sibling.nodes in
    sym (followed-Empty nodes)
    ∙ sym (at_drop_all (λ xs. followed nodes (forest_of xs)) c.args.siblings.now c.loop-sibling.sibling-index (omega arith)) ∙ c.loop-sibling.invariant
