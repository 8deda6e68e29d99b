use Rattle.std.proofs.Common.{◌≡◌, ap, subst, sym, suc, length, arith}
use Rattle.xt_frames.specs.declared.frame.Frame.TheVariants as frames
use Rattle.xt_frames.specs.declared.run.Run.{Run}
use Rattle.xt_frames.specs.Left.{left_in, StepsFrom}
use Rattle.xt_frames.proofs.Frames.{at_end, performs_steps}
use Rattle.xt_runner.proofs.Nexts.{instr_at, body_next, body_none}
use Rattle.xt_runner.proofs.Onwards.{steps_counted}
use Rattle.xt_runner.proofs.frames.go_on_body.Goals as goal

pub returns-then-body-instrs-clause-does : goal.returns-then-body-instrs-clause-does
returns-then-body-instrs-clause-does g c =
    let b = c.args.body in
    let e = ap length (rw (c.deref.ensures, c.in_ok-content.ensures) at c.as_slice-instrs.ensures.value) in
    at_end _ (frames.Body b) c.args.run.now (body_none b (left_in c.args.run.now) (omega (arith, e)))

pub perform-requires-clause-stands : goal.perform-requires-clause-stands
perform-requires-clause-stands g c =
    let b = c.args.body in
    let e = ap length (rw (c.deref.ensures, c.in_ok-content.ensures) at c.as_slice-instrs.ensures.value) in
    instr_at b.content.value.items b.next c.index-instrs-body.result (omega (arith, e)) (rw (c.as_slice-instrs.ensures.value, c.deref.ensures, c.in_ok-content.ensures) at c.index-instrs-body.is)

pub returns-clause-does : goal.returns-clause-does
returns-clause-does g c =
    let truth = (g.W.World.state c.args.world.now).truth in
    let old = c.args.run.now in
    let b = c.args.body in
    let f = frames.Body b in
    let next = c.in_ok-next.next in
    let e = ap length (rw (c.deref.ensures, c.in_ok-content.ensures) at c.as_slice-instrs.ensures.value) in
    let left = body_next b c.index-instrs-body.result (left_in old) (rw (c.as_slice-instrs.ensures.value, c.deref.ensures, c.in_ok-content.ensures) at c.index-instrs-body.is) (omega (arith, e)) in
    let steps = performs_steps truth f _ old c.perform.new.run next left c.in_ok-next.ensures.does in
    let P : Run → Type 0 = λ r. StepsFrom truth f old r next in
    subst P (sym c.count.ensures) (steps_counted truth _ (suc (length old.frames.items)) old c.perform.new.run c.count.new.run.did next steps)
