use Rattle.std.proofs.Common.{refl}
use Rattle.xt_runner.proofs.Starts.{one_left}
use Rattle.xt_runner.proofs.start.begin_template.Goals as goal

pub returns : goal.returns
returns c ask = one_left ask _ _ c.args.run.now c.push.new.run c.requires c.in_ok-push.ensures (rw (c.in_ok-share_bindings.ensures, c.in_ok-share_content.ensures) refl)
