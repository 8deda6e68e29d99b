use Rattle.std.proofs.Common.{ap, ◌∙◌}
use Rattle.spec_structure.specs.declared.content.ContentKind.TheVariants as content
use Rattle.xt_content.specs.View.{around_in, one_in}
use Rattle.xt_content.specs.Visit.{before}
use Rattle.xt_content.proofs.Siblings.{only, only_fault}
use Rattle.xt_content.proofs.Steps.{exits}
use Rattle.xt_tree.specs.View.{tree_of}
use Rattle.xt_content.proofs.body.content_at.Goals as goal

pub returns-in_err-visit : goal.returns-in_err-visit
returns-in_err-visit c =
    exits _ c.from_residual.ensures.1
    (only_fault (around_in c.args.around.now) content.Body c.args.path.now c.args.position (tree_of c.args.node.now) c.in_err-visit.ensures)

pub returns : goal.returns
returns c =
    only (around_in c.args.around.now) content.Body c.args.path.now c.args.position (tree_of c.args.node.now) c.in_ok-visit.ensures
    (c.in_ok-push.ensures ∙ ap (λ b. before b (one_in c.in_ok-visit.visit.one)) c.new-found.ensures)
