use Rattle.std.proofs.Common.{◌∷◌, map}
use Rattle.xt_compile.specs.View.{said_in}
use Rattle.xt_compile.proofs.Lasting.{is_later}
use Rattle.xt_compile.proofs.stock.stock_of.Goals as goal

pub loop-said-preserved : goal.loop-said-preserved
loop-said-preserved c =
    let i = c.loop-said.invariant in
    (c.in-Some.said ∷ i.0, is_later _ _ _ c.in-Some.said i.0 (c.in-Some.ensures {u = tt}).items i.1, (c.in-Ok.ensures {u = tt}) (map said_in i.0) i.2)
