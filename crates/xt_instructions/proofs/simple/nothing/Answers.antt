use Rattle.xt_frames.specs.declared.frame.Frame.TheVariants as frames
use Rattle.xt_frames.proofs.Performs.{one_frame}
use Rattle.xt_instructions.proofs.simple.nothing.Goals as goal

pub returns : goal.returns
returns c ask = let does = one_frame ask (frames.Body c.advanced.result) c.args.run.now c.push.new.run c.in_ok-push.ensures in rw c.advanced.ensures at does
