use Rattle.std.proofs.Common.{refl}
use Rattle.xt_session.proofs.replies.counts_reply.Goals as goal

pub returns-clause-tells : goal.returns-clause-tells
returns-clause-tells c = λ outcome free.
    record {
      ran = c.args.ran;
      asked = c.args.asked;
      did = c.args.did;
      ran_fits = c.ranges.ran.fits;
      asked_fits = c.ranges.asked.fits;
      did_fits = c.ranges.did.fits;
      free = free;
      is = refl;
    }
