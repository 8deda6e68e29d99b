use Rattle.std.proofs.Common.{refl}
use Rattle.xt_runner.proofs.Nexts.{wrap_does}
use Rattle.xt_runner.proofs.frames.go_on_wrap.Goals as goal

pub returns : goal.returns
returns c ask = wrap_does ask c.args.how c.args.run.now _ refl refl refl c.in_ok-end_wrapped.ensures
