use Rattle.xt_match.proofs.fitting.alternative_fits.Goals as goal

pub returns : goal.returns
returns c = rw c.as_slice.ensures.value at c.last_fits.ensures
