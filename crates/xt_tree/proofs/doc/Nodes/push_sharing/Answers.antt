use Rattle.std.proofs.Common.{◌∷◌, [], ◌∙◌, ap}
use Rattle.spec_document.specs.Forest.{followed}
use Rattle.xt_tree.specs.View.{forest_of, forest, tree_of, content_of}
use Rattle.xt_tree.proofs.Views.{forest_of-append}
use Rattle.xt_tree.proofs.doc.Nodes.push_sharing.Goals as goal

pub returns-clause-ok : goal.returns-clause-ok
returns-clause-ok c =
    let xs = c.self.inside.list.items in
    ap forest_of c.in_ok-push.ensures.items ∙ forest_of-append xs (c.in_ok-shared.shared ∷ [])
    ∙ ap (λ n. followed (forest_of xs) (forest (tree_of n ∷ []))) c.in_ok-shared.ensures.ok
    ∙ ap (λ t. followed (forest_of xs) (forest (t ∷ []))) c.node.ensures
    ∙ ap (λ f. followed (forest_of xs) (forest (record { number = c.args.id.number; content = content_of c.args.content.value; children = f } ∷ [])))
    c.into_list.ensures
    ∙ ap (λ f. followed f (forest (record { number = c.args.id.number; content = content_of c.args.content.value; children = c.args.children } ∷ [])))
    c.self.view_is
