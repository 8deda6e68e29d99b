use Rattle.std.proofs.Common.{length, ap, arith}
use Rattle.spec_node.specs.declared.node_ref.NodeRef.{NodeRef}
use Rattle.spec_node.specs.declared.node_ref.Part.TheVariants.{Itself}
use Rattle.xt_frames.specs.declared.frame.Frame.TheVariants as frames
use Rattle.xt_frames.specs.Left.{left_in}
use Rattle.xt_frames.proofs.Lefts.{if_ok}
use Rattle.xt_frames.proofs.Frames.{at_end, from_same}
use Rattle.xt_runner.proofs.Nexts.{items_next, items_none, no_items}
use Rattle.xt_runner.proofs.frames.go_on_items.Goals as goal

pub returns-in_default : goal.returns-in_default
returns-in_default c ask = at_end ask (frames.Items c.args.left) c.args.run.now (no_items c.args.left (left_in c.args.run.now) c.in_default.is)

pub returns-then-left-nodes : goal.returns-then-left-nodes
returns-then-left-nodes c ask =
    let i = c.args.left in
    let e = ap length c.as_slice-nodes.ensures.value in
    at_end ask (frames.Items i) c.args.run.now (items_none i c.in-Some.element (left_in c.args.run.now) c.in-Some.is (omega (arith, e)))

pub returns : goal.returns
returns c =
    let r = c.args.run.now in
    let i = c.args.left in
    let slice = c.as_slice-nodes.ensures.value in
    let e = ap length slice in
    let none : NodeRef = record { node = record { number = 0 }; part = Itself } in
    if_ok c.want.result c.want.ensures (λ next h ask.
    from_same ask (frames.Items i) _ r c.want.new.run next (items_next i c.in-Some.element none (left_in r) c.in-Some.is (omega (arith, e))) (rw (c.in-Ok.ensures, slice) at h ask))
