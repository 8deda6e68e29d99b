use Rattle.xt_attributes.proofs.Parts.{refused}
use Rattle.xt_attributes.proofs.gathered.Gathered.push.Goals as goal

pub returns-in-Err : goal.returns-in-Err
returns-in-Err g c = refused c.args.self.now.parts.items c.args.self.now.least c.args.part c.in-Err.code _ c.in-Err.is c.least_of.ensures
