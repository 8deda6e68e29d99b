use Rattle.std.proofs.Common.{ap, ◌∙◌}
use Rattle.spec_document.specs.Forest as forest
use Rattle.spec_document.specs.Forest.{Forest, followed}
use Rattle.xt_tree.specs.View.{forest_of, tree_of}
use Rattle.xt_tree.proofs.Renumbered.{followed-assoc}
use Rattle.xt_strip.proofs.along.with_own.Goals as goal

pub returns : goal.returns
returns c =
    let front = forest_of c.args.front.now in
    let behind = forest_of c.args.behind.now in
    let t = tree_of c.args.own.now.value in
    let first = c.in-Ok.ensures ∙ ap (λ f. followed f front) c.new-nodes.ensures in
    c.in_ok-push_all.ensures
    ∙ ap (λ f. followed f behind) (
    c.in_ok-push_like.ensures.ok
    ∙ ap (λ n. followed c.push_all.new.nodes (forest.Node (tree_of n).number (tree_of n).content c.args.children forest.Empty)) c.deref.ensures
    ∙ ap (λ f. followed f (forest.Node t.number t.content c.args.children forest.Empty)) first
    )
    ∙ followed-assoc front (forest.Node t.number t.content c.args.children forest.Empty) behind
