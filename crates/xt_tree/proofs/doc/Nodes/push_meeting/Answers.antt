use Rattle.std.proofs.Common.{◌∷◌, [], ◌∙◌, ◌-◌, take, sym, ap, subst, Some, None}
use Rattle.spec_document.specs.Forest.{followed}
use Rattle.spec_edit.specs.Splice.{met}
use Rattle.xt_tree.specs.Remade.{MeetsAs}
use Rattle.xt_tree.specs.View.{forest_of, forest, tree_of}
use Rattle.xt_tree.proofs.Views.{forest_of-append}
use Rattle.xt_tree.proofs.doc.Nodes.push_meeting.Goals as goal

pub returns-in_ok-push-in-None : goal.returns-in_ok-push-in-None
returns-in_ok-push-in-None c =
    let xs = c.self.inside.list.items in
    let next = tree_of c.args.node.now.value in
    let found : MeetsAs xs next None =
    subst (λ r. MeetsAs xs next r) c.in-None.is
    (subst (λ n. MeetsAs xs (tree_of n) c.in_ok-meeting.field-0) c.deref.ensures
    (subst (λ ys. MeetsAs ys (tree_of c.deref.result.now) c.in_ok-meeting.field-0) c.as_slice.ensures.value c.in_ok-meeting.ensures)) in
    ap forest_of c.in_ok-push-in-None.ensures.items ∙ forest_of-append xs (c.in_ok-shared-in-None.shared ∷ [])
    ∙ ap (λ n. followed (forest_of xs) (forest (tree_of n ∷ []))) c.in_ok-shared-in-None.ensures.cases ∙ sym found
    ∙ ap (λ f. met f (forest (next ∷ []))) c.self.view_is

pub returns-in_ok-push-in-Some : goal.returns-in_ok-push-in-Some
returns-in_ok-push-in-Some c =
    let xs = c.self.inside.list.items in
    let next = tree_of c.args.node.now.value in
    let joined = c.in-Some.joined in
    let found : MeetsAs xs next (Some joined) =
    subst (λ r. MeetsAs xs next r) c.in-Some.is
    (subst (λ n. MeetsAs xs (tree_of n) c.in_ok-meeting.field-0) c.deref.ensures
    (subst (λ ys. MeetsAs ys (tree_of c.deref.result.now) c.in_ok-meeting.field-0) c.as_slice.ensures.value c.in_ok-meeting.ensures)) in
    ap forest_of c.in_ok-push-in-Some.ensures.items ∙ forest_of-append c.pop.new.self.items (joined ∷ [])
    ∙ ap (λ ys. followed (forest_of ys) (forest_of (joined ∷ []))) (c.pop.ensures.rest ∙ ap (λ n. take (n - 1) xs) c.self.inside.list.ok.0) ∙ sym found
    ∙ ap (λ f. met f (forest (next ∷ []))) c.self.view_is
