use Rattle.std.proofs.Common.{ap, ◌∙◌}
use Rattle.spec_meaning.specs.Stream.{Stream}
use Rattle.spec_result.specs.Recovery.{messages_of}
use Rattle.xt_record.proofs.Streams.{silent_pushed}
use Rattle.xt_driver.proofs.way.Way.add.Goals as goal

pub invariant_of-self-2 : goal.invariant_of-self-2
invariant_of-self-2 c =
    let before = c.args.self.now in
    record {
      silent = λ so. silent_pushed before.parts.items c.push.new.self.items c.in_ok-part.part c.in_ok-push.ensures.items
          (before.silent (c.both_silent-is_silent.ensures.parts so))
          (ap (λ (s : Stream). messages_of s) c.in_ok-part.ensures ∙ c.both_silent-is_silent.ensures.outcome so);
    }
