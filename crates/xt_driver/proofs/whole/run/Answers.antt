use Rattle.std.proofs.Common.{ap, ◌∙◌, []}
use Rattle.std.specs.Prelude.{OnOk}
use Rattle.spec_run.specs.Meaning as meant
use Rattle.xt_driver.specs.View.{setting_in}
use Rattle.xt_driver.specs.Counted.{CountedWhole, KeepsAll, StaysLikeRun}
use Rattle.xt_driver.proofs.Standing.{if_ok}
use Rattle.xt_driver.proofs.Wholes.{only_so, whole_at}
use Rattle.xt_driver.proofs.whole.run.Goals as goal

pub returns-clause-run : goal.returns-clause-run
returns-clause-run g c =
    let s = setting_in (g.W.World.state c.args.world.now).truth c.args.root c.args.globals.now in
    if_ok c.run_in.result c.run_in.ensures.run (λ w h. h ∙ ap (λ n. meant.run s n s.globals [] [] (meant.root_call s)) c.levels_of_a_run.ensures)

pub returns-clause-counts : goal.returns-clause-counts
returns-clause-counts g c =
    let s = setting_in (g.W.World.state c.args.world.now).truth c.args.root c.args.globals.now in
    λ within. whole_at (λ is. OnOk c.run_in.result (CountedWhole s is c.args.reuse.now c.run_in.new.reuse)) s c.levels_of_a_run.result
    c.levels_of_a_run.ensures (c.run_in.ensures.counts within)

pub returns-clause-kept : goal.returns-clause-kept
returns-clause-kept g c =
    let s = setting_in (g.W.World.state c.args.world.now).truth c.args.root c.args.globals.now in
    λ within. whole_at (λ is. OnOk c.run_in.result (KeepsAll s is c.run_in.new.reuse)) s c.levels_of_a_run.result c.levels_of_a_run.ensures
    (c.run_in.ensures.kept within)

pub returns-clause-only : goal.returns-clause-only
returns-clause-only g c =
    let s = setting_in (g.W.World.state c.args.world.now).truth c.args.root c.args.globals.now in
    λ within. only_so s c.args.reuse.now c.run_in.new.reuse c.run_in.result
    (whole_at (λ is. OnOk c.run_in.result (StaysLikeRun s c.args.reuse.now c.run_in.new.reuse)) s c.levels_of_a_run.result c.levels_of_a_run.ensures
    (c.run_in.ensures.only within))
