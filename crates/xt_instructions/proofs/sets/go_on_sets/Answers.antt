use Rattle.std.proofs.Common.{◌<◌, ◌+◌, length, drop, sym, ap, ◌∙◌, arith}
use Rattle.spec_run.specs.Plan.{Enter}
use Rattle.spec_run.specs.Content.{sets_entered}
use Rattle.xt_syntax.specs.PartView.{place_of}
use Rattle.xt_frames.specs.declared.frame.Frame.TheVariants as frames
use Rattle.xt_frames.specs.View.{here_of}
use Rattle.xt_frames.specs.Left.{left_in}
use Rattle.xt_frames.proofs.Lefts.{if_ok}
use Rattle.xt_frames.proofs.Frames.{at_end, from_same}
use Rattle.xt_instructions.proofs.Used.{set_next, sets_none}
use Rattle.xt_instructions.proofs.sets.go_on_sets.Goals as goal

pub returns-then-left-len : goal.returns-then-left-len
returns-then-left-len c ask =
    let s = c.args.left in
    at_end ask (frames.Sets s) c.args.run.now (sets_none s (left_in c.args.run.now) (omega (arith, s.elements.ok.0, c.len.ensures, c.if-left-len.true)))

pub returns : goal.returns
returns c =
    let s = c.args.left in
    let r = c.args.run.now in
    let lt : s.next < length s.elements.items = omega (arith, s.elements.ok.0, c.len.ensures, c.if-left-len.false) in
    if_ok c.want.result c.want.ensures (λ next h ask.
    from_same ask (frames.Sets s) _ r c.want.new.run next
    (set_next s c.index.result.now (left_in r) lt c.index.ensures ∙ ap (λ x. Enter x s.here.depth (sets_entered (place_of s.place) (here_of s.here) (drop (s.next + 1) s.elements.items) (left_in r))) (sym c.in_ok-call.ensures)) (h ask))
