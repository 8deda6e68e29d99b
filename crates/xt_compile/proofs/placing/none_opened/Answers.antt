use Rattle.xt_compile.proofs.Opening.{no_module_opened}
use Rattle.xt_compile.proofs.placing.none_opened.Goals as goal

pub returns : goal.returns
returns c = record { stock = c.in_ok-stock.ensures; opened = no_module_opened _ _ c.new-opened.ensures.empty }
