use Rattle.xt_driver.proofs.Streams.{silent_streamed}
use Rattle.xt_driver.proofs.level.take_stream.Goals as goal

pub invariant_of-standing-2 : goal.invariant_of-standing-2
invariant_of-standing-2 g c =
    let before = c.args.standing.now in
    record {
      silent = λ so. silent_streamed _ c.args.came _ _ c.in-Ok.ensures (before.silent (c.stays_silent-is_silent.ensures.parts so))
          (c.stays_silent-is_silent.ensures.came so);
    }
