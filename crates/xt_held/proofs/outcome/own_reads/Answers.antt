use Rattle.xt_world.specs.View.{truth_in}
use Rattle.xt_held.proofs.outcome.own_reads.Goals as goal

pub returns-then-is_refused : goal.returns-then-is_refused
returns-then-is_refused c = λ values carries.
    c.none.ensures c.args.stylesheet.now (truth_in c.args.stylesheet.now values c.args.source.now)
