use Rattle.std.proofs.Common.{◌≡◌, [], ap, reverse, rules}
use Rattle.xt_import.specs.View.{modules_in}
use Rattle.xt_import.proofs.Gathering.{finished}
use Rattle.xt_import.proofs.gather.gather.Goals as goal

pub returns-clause-gathered : goal.returns-clause-gathered
returns-clause-gathered c =
    let none : c.loop-first.pending.items ≡ [] = search rules in
    finished (modules_in c.args.modules.now.entries) c.args.target.now _ _ _ (ap reverse none) c.loop-first.invariant
