use Rattle.std.proofs.Common.{suc, length, subst}
use Rattle.spec_meaning.specs.Stream.{Ended}
use Rattle.spec_run.specs.Plan.{Plan, Put}
use Rattle.spec_node.specs.declared.node_ref.NodeRef.{NodeRef}
use Rattle.xt_frames.specs.declared.run.Next.TheVariants.{Went}
use Rattle.xt_frames.specs.Left.{left_in, Does}
use Rattle.xt_frames.proofs.Performs.{one_frame}
use Rattle.xt_frames.proofs.held.hold_value.Goals as goal

pub returns : goal.returns
returns c ask =
    let old = c.args.run.now in
    let P : Plan NodeRef → Type 0 = λ p. Does ask (Put Ended p) (suc (length old.frames.items)) old c.push.new.run Went in
    subst P (c.in_ok-frame.ensures (left_in old)) (one_frame ask c.in_ok-frame.frame old c.push.new.run c.in_ok-push.ensures)
