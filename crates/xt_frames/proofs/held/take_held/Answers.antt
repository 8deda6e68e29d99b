use Rattle.std.proofs.Common.{[], refl, ap, ◌∙◌}
use Rattle.spec_meaning.specs.Stream.{Stream, filled}
use Rattle.spec_meaning.specs.Value.{Fragment}
use Rattle.spec_run.specs.Plan.{Plan}
use Rattle.spec_node.specs.declared.node_ref.NodeRef.{NodeRef}
use Rattle.xt_frames.specs.declared.run.Run.{Run}
use Rattle.xt_frames.specs.View.{left_with}
use Rattle.xt_frames.specs.Left.{left_in}
use Rattle.xt_frames.proofs.Performs.{take_does}
use Rattle.xt_frames.proofs.Frames.{does_steps}
use Rattle.xt_frames.proofs.held.take_held.Goals as goal

pub returns : goal.returns
returns c ask =
    let old = c.args.run.now in
    let mid : Run = record { room = old.room; supplies = old.supplies; waiting = old.waiting; frames = old.frames; going = c.taken_value.new.going; did = old.did } in
    let K : Stream → Plan NodeRef = λ s. left_with c.args.holder (Fragment (filled s [])) (left_in old) in
    let left = c.in_ok-frame.ensures (left_in old) ∙ ap (λ v. left_with c.args.holder v (left_in old)) c.in-Ok.ensures.value in
    does_steps ask _ _ old c.push.new.run _ (take_does ask K c.in_ok-frame.frame old mid c.push.new.run refl refl refl c.in-Ok.ensures.going c.in_ok-push.ensures left)
