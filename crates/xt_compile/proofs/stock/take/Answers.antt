use Rattle.std.proofs.Common.{ap, sym, ◌∙◌}
use Rattle.xt_top_level.specs.View.{top_levels_in}
use Rattle.xt_compile.proofs.Stocked.{not_there}
use Rattle.xt_compile.proofs.stock.take.Goals as goal

pub returns-then-not-has-clause-taken : goal.returns-then-not-has-clause-taken
returns-then-not-has-clause-taken c said says stock =
    ap top_levels_in c.new.ensures.items ∙ not_there c.args.name.now said c.args.stock.now.entries (sym c.has.ensures ∙ c.if-not-has.true) stock
