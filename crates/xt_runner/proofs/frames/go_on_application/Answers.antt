use Rattle.std.proofs.Common.{◌+◌, get_or, length, ap, arith, refl}
use Rattle.spec_meaning.specs.Question.{Choice, AllRules}
use Rattle.spec_node.specs.declared.node_ref.NodeRef.{NodeRef}
use Rattle.spec_node.specs.declared.node_ref.Part.TheVariants.{Itself}
use Rattle.xt_frames.specs.declared.run.Run.{Run}
use Rattle.xt_frames.specs.declared.frame.Application.{Application}
use Rattle.xt_frames.specs.declared.frame.Frame.TheVariants as frames
use Rattle.xt_frames.specs.View.{left_frame}
use Rattle.xt_frames.specs.Left.{left_in}
use Rattle.xt_frames.proofs.Lefts.{if_ok}
use Rattle.xt_frames.proofs.Performs.{inquired}
use Rattle.xt_frames.proofs.Frames.{at_end, from_same}
use Rattle.xt_runner.proofs.Nexts.{application_next, application_none, entered_then}
use Rattle.xt_runner.proofs.frames.go_on_application.Goals as goal

pub returns-then-left-nodes-clause-does : goal.returns-then-left-nodes-clause-does
returns-then-left-nodes-clause-does g c =
    let a = c.args.left in
    let e = ap length c.as_slice-nodes.ensures.value in
    at_end _ (frames.Application a) c.args.run.now (application_none a (left_in c.args.run.now) (omega (arith, e)))

pub returns-clause-does : goal.returns-clause-does
returns-clause-does g c =
    let truth = (g.W.World.state c.args.world.now).truth in
    let r = c.args.run.now in
    let a = c.args.left in
    let slice = c.as_slice-nodes.ensures.value in
    let e = ap length slice in
    let none : NodeRef = record { node = record { number = 0 }; part = Itself } in
    let n = get_or a.nodes.items a.next none in
    let j : Application = record { place = a.place; mode = a.mode; parameters = a.parameters; nodes = a.nodes; next = a.next + 1; depth = a.depth } in
    let mid : Run = record { room = r.room; supplies = r.supplies; waiting = r.waiting; frames = r.frames; going = c.next_call.new.going; did = r.did } in
    if_ok c.want.result c.want.ensures (λ next h.
    from_same truth (frames.Application a) _ r c.want.new.run next (application_next a none (left_in r) (omega (arith, e)))
    (inquired truth (Choice n a.mode AllRules) (entered_then a n (a.next + 1) (left_frame (frames.Application j) (left_in r))) _ r mid c.want.new.run next (rw slice at c.in-Ok.ensures.noted) refl refl
    (rw (c.in-Ok.ensures.call, slice) at h truth)))
