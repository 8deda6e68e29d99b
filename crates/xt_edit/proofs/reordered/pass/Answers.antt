use Rattle.std.proofs.Common.{sym, ap, ◌∙◌}
use Rattle.std.specs.Option.{option_map}
use Rattle.xt_tree.specs.View.{tree_of}
use Rattle.xt_edit.specs.MoveTelling.{number_in}
use Rattle.xt_edit.specs.Reordered.{past_next}
use Rattle.xt_edit.specs.Telling.{numbers_in}
use Rattle.xt_edit.proofs.Reordering.{next-passed, other-passed}
use Rattle.xt_edit.proofs.reordered.pass.Goals as goal

pub returns-in-Some : goal.returns-in-Some
returns-in-Some c behind =
    let node = tree_of c.args.sibling.now.value in
    next-passed (option_map number_in c.args.staying) (numbers_in c.args.kept.now) (numbers_in c.in-Some.rest.now) (numbers_in c.args.list.now.items)
    node.number node.content node.children behind
    (ap (option_map (λ rest. numbers_in rest.now)) (sym c.in-Some.is) ∙ c.past_next.ensures
    ∙ ap (past_next (numbers_in c.args.kept.now)) (c.id.ensures ∙ ap (λ n. (tree_of n).number) c.deref.ensures))

pub returns-in_ok-push_unless-in-None : goal.returns-in_ok-push_unless-in-None
returns-in_ok-push_unless-in-None c behind =
    let node = tree_of c.args.sibling.now.value in
    other-passed (option_map number_in c.args.staying) (numbers_in c.args.kept.now) (numbers_in c.args.list.now.items)
    (numbers_in c.push_unless.new.list.items) node.number node.content node.children behind
    (ap (option_map (λ rest. numbers_in rest.now)) (sym c.in-None.is) ∙ c.past_next.ensures
    ∙ ap (past_next (numbers_in c.args.kept.now)) (c.id.ensures ∙ ap (λ n. (tree_of n).number) c.deref.ensures))
    c.in_ok-push_unless-in-None.ensures
