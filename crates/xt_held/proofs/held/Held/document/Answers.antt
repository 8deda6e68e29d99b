use Rattle.xt_held.proofs.Keeping.{named_so}
use Rattle.xt_held.proofs.held.Held.document.Goals as goal

pub returns : goal.returns
returns c = named_so c.args.name c.args.self.now c.found.result c.found.ensures
