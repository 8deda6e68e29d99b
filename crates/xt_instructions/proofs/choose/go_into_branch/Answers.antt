use Rattle.std.proofs.Common.{length, subst, sym}
use Rattle.spec_stylesheet.specs.Instruction as tree
use Rattle.xt_frames.specs.View.{here_of, inside}
use Rattle.xt_frames.specs.Left.{left_in, Does}
use Rattle.xt_frames.proofs.Lefts.{if_ok}
use Rattle.xt_instructions.proofs.Views.{view-Branch}
use Rattle.xt_instructions.proofs.choose.go_into_branch.Goals as goal

pub returns : goal.returns
returns c =
    let r = c.args.run.now in
    if_ok c.go_into.result c.go_into.ensures (λ next h ask.
    let P : tree.Branch → Type 0 = λ x. Does ask (inside x.site.place x.content (here_of c.args.here) (left_in r)) (length r.frames.items) r c.go_into.new.run next in
    subst P (sym (view-Branch c.args.branch.now)) (rw c.in-Ok.ensures at h ask))
