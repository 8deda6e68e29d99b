use Rattle.std.proofs.Common.{refl}
use Rattle.xt_record.proofs.Saying.{tree_spared}
use Rattle.xt_record.proofs.reuse.Reuse.tree_holds.Goals as goal

pub returns-then-spares_all-clause-holds : goal.returns-then-spares_all-clause-holds
returns-then-spares_all-clause-holds g c = λ _.
    let truth = (g.W.World.state c.args.world.now).truth in
    let self = c.args.self.now in
    let k = c.requires in
    tree_spared truth self.spared.now self.last.now c.args.turn c.args.whole.now k.paired k.within k.tree (c.if-spares_all.ensures refl) k.sure.trees
    k.sure.spared
