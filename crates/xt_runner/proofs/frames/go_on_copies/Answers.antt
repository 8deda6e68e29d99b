use Rattle.std.proofs.Common.{◌+◌, get_or, length, ap, arith, refl}
use Rattle.spec_node.specs.declared.node_ref.NodeRef.{NodeRef}
use Rattle.spec_node.specs.declared.node_ref.Part.TheVariants.{Itself}
use Rattle.xt_frames.specs.declared.run.Run.{Run}
use Rattle.xt_frames.specs.declared.run.Next.TheVariants.{Went}
use Rattle.xt_frames.specs.declared.frame.Copies.{Copies}
use Rattle.xt_frames.specs.declared.frame.Frame.TheVariants as frames
use Rattle.xt_frames.specs.Left.{left_in}
use Rattle.xt_frames.proofs.Frames.{at_end, from_same}
use Rattle.xt_runner.proofs.Nexts.{copies_next, copies_none, copied_does}
use Rattle.xt_runner.proofs.frames.go_on_copies.Goals as goal

pub returns-then-left-nodes-clause-does : goal.returns-then-left-nodes-clause-does
returns-then-left-nodes-clause-does g c =
    let a = c.args.left in
    let e = ap length c.as_slice-nodes.ensures.value in
    at_end _ (frames.Copies a) c.args.run.now (copies_none a (left_in c.args.run.now) (omega (arith, e)))

pub returns-clause-does : goal.returns-clause-does
returns-clause-does g c =
    let truth = (g.W.World.state c.args.world.now).truth in
    let r = c.args.run.now in
    let a = c.args.left in
    let slice = c.as_slice-nodes.ensures.value in
    let e = ap length slice in
    let none : NodeRef = record { node = record { number = 0 }; part = Itself } in
    let n = get_or a.nodes.items a.next none in
    let j : Copies = record { nodes = a.nodes; next = a.next + 1 } in
    let mid : Run = record { room = r.room; supplies = r.supplies; waiting = r.waiting; frames = r.frames; going = c.write_copy.new.going; did = r.did } in
    from_same truth (frames.Copies a) _ r c.push.new.run Went (copies_next a none (left_in r) (omega (arith, e)))
    (copied_does truth n (frames.Copies j) r mid c.push.new.run refl refl refl (rw slice at c.in_ok-write_copy.ensures.written) c.in_ok-push.ensures)
