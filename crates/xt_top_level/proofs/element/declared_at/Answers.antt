use Rattle.std.proofs.Common.{ap}
use Rattle.spec_compile.specs.Content.{children_among}
use Rattle.xt_content.specs.View.{around_in}
use Rattle.xt_tree.specs.View.{forest_of}
use Rattle.xt_top_level.proofs.Steps.{answers_as, answers_give, answers_stop, answers_then, exits}
use Rattle.xt_top_level.proofs.element.declared_at.Goals as goal

pub returns-in_err-entries : goal.returns-in_err-entries
returns-in_err-entries c = exits _ c.from_residual.ensures.1 (answers_stop _ c.in_err-entries.ensures)

pub returns-in_err-below : goal.returns-in_err-below
returns-in_err-below c =
    exits _ c.from_residual-in_err-below.ensures.1
    (answers_then _ c.in_ok-entries.ensures
    (answers_stop _ (answers_as (ap (λ kind. children_among (around_in c.args.around.now) kind c.args.path.now 1 (forest_of c.args.children.now)) c.content_of.ensures) c.in_err-below.ensures)))

pub returns : goal.returns
returns c =
    answers_then _ c.in_ok-entries.ensures
    (answers_then _ (answers_as (ap (λ kind. children_among (around_in c.args.around.now) kind c.args.path.now 1 (forest_of c.args.children.now)) c.content_of.ensures) c.in_ok-below.ensures)
    (answers_give c.in_ok-top_level.ensures))
