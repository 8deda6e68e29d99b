use Rattle.std.proofs.Common.{◌∷◌, [], ◌∙◌, ap}
use Rattle.spec_document.specs.Forest.{followed}
use Rattle.xt_tree.specs.View.{forest_of, forest, tree_of}
use Rattle.xt_tree.proofs.Views.{forest_of-append}
use Rattle.xt_tree.proofs.doc.Nodes.push_shared.Goals as goal

pub returns : goal.returns
returns c =
    let xs = c.self.inside.list.items in
    ap forest_of c.in_ok-push.ensures.items ∙ forest_of-append xs (c.in_ok-shared.shared ∷ [])
    ∙ ap (λ n. followed (forest_of xs) (forest (tree_of n ∷ []))) c.in_ok-shared.ensures.cases
    ∙ ap (λ f. followed f (forest (tree_of c.args.node.now.value ∷ []))) c.self.view_is
