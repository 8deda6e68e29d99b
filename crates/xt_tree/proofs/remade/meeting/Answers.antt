use Rattle.std.proofs.Common.{◌∙◌, ap}
use Rattle.std.specs.Option.{option_map}
use Rattle.xt_tree.specs.Remade.{joined_texts}
use Rattle.xt_tree.specs.View.{tree_of}
use Rattle.xt_tree.proofs.Joined.{meets, if_ok_weaker, with_own}
use Rattle.xt_tree.proofs.remade.meeting.Goals as goal

pub returns-in-Some : goal.returns-in-Some
returns-in-Some c =
    let next = tree_of c.args.next.now in
    if_ok_weaker c.joined.result
    (λ r e. meets c.args.siblings.now c.in-Some.field-0-1.now c.in-Some.last.now next r (c.in-Some.ensures {u = tt}).cases.0
    (e ∙ ap (λ n. option_map (with_own (tree_of n)) (joined_texts (tree_of n).content next.content)) c.deref.ensures))
    c.joined.ensures
