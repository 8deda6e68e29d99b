use Rattle.std.proofs.Common.{◌≡◌, List, ◌++◌, length, map}
use Rattle.xt_compile.specs.Stock.{IsStock}
use Rattle.xt_compile.specs.View.{said_in}
use Rattle.xt_compile.specs.declared.read.Said.{Said}
use Rattle.xt_compile.proofs.stock.stock_of.Given as goal

abbrev pub invariant-loop-said : goal.invariant-loop-said
invariant-loop-said l = (later : List Said) × (l.left.items ++ later ≡ l.fn.said.items) × IsStock (map said_in later) l.stock.entries

abbrev pub decreases-loop-said : goal.decreases-loop-said
decreases-loop-said l = length l.left.items
