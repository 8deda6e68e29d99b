use Rattle.std.proofs.Common.{◌≡◌, length, arith}
use Rattle.std.proofs.lemmas.Bool.Decides.{nat_tests}
use Rattle.xt_frames.specs.declared.frame.Frame.TheVariants as frames
use Rattle.xt_frames.specs.Left.{left_in}
use Rattle.xt_instructions.proofs.Used.{pushed_over, nothing_over, sets_none}
use Rattle.xt_instructions.proofs.sets.push_sets.Goals as goal

pub returns-then-is_empty : goal.returns-then-is_empty
returns-then-is_empty c =
    let s = c.args.used in
    let none : length s.elements.items ≡ 0 = grind (arith, nat_tests, s.elements.ok.0, c.is_empty.ensures, c.if-is_empty.true) in
    nothing_over (frames.Sets s) c.args.run.now (sets_none s (left_in c.args.run.now) (omega arith))

pub returns : goal.returns
returns c = pushed_over (frames.Sets c.args.used) c.args.run.now c.push.new.run c.in_ok-push.ensures
