use Rattle.xt_record.proofs.Listing.{part_listed}
use Rattle.xt_record.proofs.Ok.{if_ok, if_some}
use Rattle.xt_record.proofs.pool.Pool.part.Goals as goal

pub returns-clause-part : goal.returns-clause-part
returns-clause-part c = if_ok c.part.result c.part.ensures (λ o of. if_some o of (λ q part.
    part_listed c.self.inside.pieces c.self.inside.loose.items c.args.self.now c.self.view_is c.args.first c.args.turn c.args.end q c.requires.turn part))
