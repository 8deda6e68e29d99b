use Rattle.xt_avt.proofs.Cutting.{seam, split_there}
use Rattle.xt_avt.proofs.braces.enclosed_in.Goals as goal

pub split_at-requires : goal.split_at-requires
split_at-requires c = seam c.args.text.now c.in-Some.close.now c.in-Some.rest.now (c.in-Some.ensures {u = tt})

pub returns-in-Some : goal.returns-in-Some
returns-in-Some c =
    split_there c.args.text.now c.in-Some.close.now c.in-Some.rest.now c.split_at.result.0.now c.utf8.text (c.in-Some.ensures {u = tt}) c.split_at.ensures.front
