use Rattle.std.proofs.Common.{arith}
use Rattle.xt_held.proofs.Batches.{none_copied}
use Rattle.xt_held.proofs.batch.copied_modules.Goals as goal

pub loop-index-init : goal.loop-index-init
loop-index-init c =
    none_copied c.args.modules.now.entries c.new-copy.result.entries c.len-index.result (omega (arith, c.len-index.ensures.len)) c.new-copy.ensures.empty
