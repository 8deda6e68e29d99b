use Rattle.std.proofs.Common.{suc, ◌+◌, get_or, ap, length, map, arith, subst}
use Rattle.spec_stylesheet.specs.Instruction.{instrs}
use Rattle.spec_run.specs.Content.{Here, at}
use Rattle.xt_syntax.specs.InstrView.{instr_of}
use Rattle.xt_syntax.specs.PartView.{place_of}
use Rattle.spec_node.specs.declared.node_ref.NodeRef.{NodeRef}
use Rattle.xt_frames.specs.declared.frame.Loop.{Loop}
use Rattle.xt_frames.specs.declared.frame.Frame.TheVariants as frames
use Rattle.xt_frames.specs.View.{here_of, inside}
use Rattle.xt_frames.specs.Left.{left_in, Does}
use Rattle.xt_frames.proofs.Lefts.{if_ok}
use Rattle.xt_frames.proofs.Performs.{after_frame}
use Rattle.xt_frames.proofs.Frames.{at_end, from_same}
use Rattle.xt_runner.proofs.Nexts.{loop_next, loop_none}
use Rattle.xt_runner.proofs.frames.go_on_loop.Goals as goal

pub returns-then-left-as_slice : goal.returns-then-left-as_slice
returns-then-left-as_slice c ask =
    let l = c.args.left in
    let e = ap length c.as_slice.ensures.value in
    at_end ask (frames.Loop l) c.args.run.now (loop_none l (left_in c.args.run.now) (omega (arith, e)))

pub returns : goal.returns
returns c =
    let r = c.args.run.now in
    let l = c.args.left in
    let e = ap length c.as_slice.ensures.value in
    let j : Loop = record { place = l.place; content = l.content; nodes = l.nodes; next = l.next + 1; here = l.here } in
    let is = instrs (map instr_of l.content.value.items) in
    let n : NodeRef = c.in-Ok.inner.here.focus.node in
    let here = at (get_or l.nodes.items l.next n) (suc l.next) (length l.nodes.items) (here_of l.here) in
    if_ok c.go_into.result c.go_into.ensures (λ next h ask.
    let P : Here NodeRef → Type 0 = λ x. Does ask (inside (place_of l.place) is x (left_in c.push.new.run)) (length c.push.new.run.frames.items) c.push.new.run c.go_into.new.run next in
    from_same ask (frames.Loop l) _ r c.go_into.new.run next (loop_next l n (left_in r) (omega (arith, e)))
    (after_frame ask (inside (place_of l.place) is here) (frames.Loop j) r c.push.new.run c.go_into.new.run next c.in_ok-push.ensures (subst P (c.in-Ok.ensures.here n) (rw (c.in-Ok.ensures.place, c.in-Ok.ensures.content) at h ask))))
