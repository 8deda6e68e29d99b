use Rattle.xt_content.specs.Sibling.{alone}
use Rattle.xt_content.specs.View.{around_in}
use Rattle.xt_tree.specs.View.{tree_of}
use Rattle.xt_top_level.proofs.Elements.{at_simplified}
use Rattle.xt_top_level.proofs.Steps.{answers_as, answers_give, answers_stop, answers_then, exits}
use Rattle.xt_top_level.proofs.simplified.simplified_at.Goals as goal

pub returns-in_err-below : goal.returns-in_err-below
returns-in_err-below c =
    exits _ c.from_residual-in_err-below.ensures.1
    (answers_as (at_simplified c.args.name.now c.args.position (alone (tree_of c.args.node.now)) (around_in c.in_ok-around.around) c.new-path.result c.in_ok-around.ensures c.new-path.ensures) (answers_stop _ c.in_err-below.ensures))

pub returns : goal.returns
returns c =
    answers_as (at_simplified c.args.name.now c.args.position (alone (tree_of c.args.node.now)) (around_in c.in_ok-around.around) c.new-path.result c.in_ok-around.ensures c.new-path.ensures)
    (answers_then _ c.in_ok-below.ensures (answers_give c.in_ok-top_levels.ensures))
