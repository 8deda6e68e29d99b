use Rattle.std.proofs.Common.{refl}
use Rattle.xt_frames.specs.declared.frame.Frame.TheVariants as frames
use Rattle.xt_runner.proofs.Starts.{one_left}
use Rattle.xt_runner.proofs.start.begin_own.Goals as goal

pub returns : goal.returns
returns c ask = one_left ask _ (frames.Global c.args.here) c.args.run.now c.push.new.run c.requires c.in_ok-push.ensures refl
