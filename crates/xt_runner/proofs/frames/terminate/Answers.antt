use Rattle.xt_runner.proofs.Nexts.{terminate_does}
use Rattle.xt_runner.proofs.frames.terminate.Goals as goal

pub returns : goal.returns
returns c ask run = terminate_does ask c.args.place run
