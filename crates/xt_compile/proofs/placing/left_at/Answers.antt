use Rattle.std.proofs.Common.{ap, sym, ◌∙◌}
use Rattle.xt_top_level.specs.View.{top_levels_in}
use Rattle.xt_compile.proofs.Places.{if_left, none_left, still_left}
use Rattle.xt_compile.proofs.placing.left_at.Goals as goal

pub returns-in-None-clause-found : goal.returns-in-None-clause-found
returns-in-None-clause-found c all left =
    ap top_levels_in c.new.ensures.items ∙ none_left c.args.path.now all c.args.opened.now.entries (sym c.in-None.is ∙ c.in_ok-take_at.ensures.taken) left

pub returns-in-None-clause-stays : goal.returns-in-None-clause-stays
returns-in-None-clause-stays c all left = still_left c.args.path.now all c.args.opened.now.entries c.take_at.new.opened.entries c.in_ok-take_at.ensures.rest left

pub returns-in-Some-clause-found : goal.returns-in-Some-clause-found
returns-in-Some-clause-found c =
    if_left c.args.path.now c.args.opened.now.entries c.in-Some.found c.if_any.result (sym c.in-Some.is ∙ c.in_ok-take_at.ensures.taken) c.if_any.ensures

pub returns-in-Some-clause-stays : goal.returns-in-Some-clause-stays
returns-in-Some-clause-stays c all left = still_left c.args.path.now all c.args.opened.now.entries c.take_at.new.opened.entries c.in_ok-take_at.ensures.rest left
