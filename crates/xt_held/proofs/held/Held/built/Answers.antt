use Rattle.xt_held.proofs.Below.{built_below}
use Rattle.xt_held.proofs.Left.{built_faultless}
use Rattle.xt_held.proofs.held.Held.built.Goals as goal

pub returns-clause-below : goal.returns-clause-below
returns-clause-below c = built_below c.in_ok-scope.scope c.args.self.now.next.number c.args.body.now c.build.result c.build.ensures.answer c.build.ensures.next

pub returns-clause-faultless : goal.returns-clause-faultless
returns-clause-faultless c =
    built_faultless c.documents_begin_well.ensures c.in_ok-scope.scope c.in_ok-scope.ensures c.args.self.now.next.number c.args.body.now c.build.result
    c.build.ensures.answer
