use Rattle.xt_held.proofs.Left.{made_by_edit}
use Rattle.xt_held.proofs.held.Held.sighted.Goals as goal

pub sighted_after-requires : goal.sighted_after-requires
sighted_after-requires c =
    made_by_edit c.args.origin c.in-Edited.edit c.args.self.now.source c.in-Some.old c.args.document c.in-Edited.is c.in-Some.is c.requires
