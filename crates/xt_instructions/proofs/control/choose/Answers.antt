use Rattle.std.proofs.Common.{◌+◌, map, subst, suc, length}
use Rattle.spec_stylesheet.specs.Instruction.{branches}
use Rattle.spec_run.specs.Content.{Here, planned_branches}
use Rattle.xt_syntax.specs.InstrView.{branch_of}
use Rattle.spec_node.specs.declared.node_ref.NodeRef.{NodeRef}
use Rattle.xt_frames.specs.declared.frame.Body.{Body}
use Rattle.xt_frames.specs.declared.frame.Frame.TheVariants as frames
use Rattle.xt_frames.specs.View.{here_of, left_frame}
use Rattle.xt_frames.specs.Left.{left_in, Steps}
use Rattle.xt_frames.proofs.Lefts.{if_ok}
use Rattle.xt_instructions.proofs.Chosen.{steps_after, steps_performs}
use Rattle.xt_instructions.proofs.control.choose.Goals as goal

pub returns-clause-does : goal.returns-clause-does
returns-clause-does g c =
    let truth = (g.W.World.state c.args.world.now).truth in
    let old = c.args.run.now in
    let b = c.args.body in
    let bs = branches (map branch_of c.args.branches.now.value.items) in
    let rest : Body = record { content = b.content; next = b.next + 1; here = b.here } in
    if_ok c.choose_from.result c.choose_from.ensures.does (λ next h.
    let all = steps_after truth (planned_branches bs (here_of c.in_ok-here.here)) (frames.Body rest) old c.put_rest.new.run c.choose_from.new.run next c.in_ok-here.ensures.pushed (rw c.in_ok-share_branches.ensures at h) in
    let P : Here NodeRef → Type 0 = λ x. Steps truth (planned_branches bs x (left_frame (frames.Body rest) (left_in old))) (suc (length old.frames.items)) old c.choose_from.new.run next in
    steps_performs truth (frames.Body b) _ old c.choose_from.new.run next (subst P c.in_ok-here.ensures.here all))
