use Rattle.spec_run.specs.Plan.{Yield}
use Rattle.xt_syntax.specs.PartView.{place_of}
use Rattle.xt_frames.specs.declared.frame.Frame.TheVariants as frames
use Rattle.xt_frames.proofs.Lefts.{if_both}
use Rattle.xt_frames.proofs.Performs.{perform_halts, perform_lacks}
use Rattle.xt_runner.proofs.Globals.{evaluated}
use Rattle.xt_runner.proofs.parameters.evaluate.Goals as goal

pub returns-in-Is-clause-does : goal.returns-in-Is-clause-does
returns-in-Is-clause-does g c =
    let found = rw c.in-Is.is at c.in_ok-value.ensures.found (λ v. Yield v) in
    evaluated (g.W.World.state c.args.world.now).truth (frames.Global c.args.here) _ c.args.run.now c.value.new.run c.in-Is.value found.so c.value.ensures.still

pub returns-in-Halts-clause-does : goal.returns-in-Halts-clause-does
returns-in-Halts-clause-does g c =
    let found = rw c.in-Halts.is at c.in_ok-value.ensures.found (λ v. Yield v) in
    perform_halts (g.W.World.state c.args.world.now).truth _ _ c.args.run.now c.value.new.run c.in-Halts.why found.so c.value.ensures.still

pub returns-in-Lacks-clause-does : goal.returns-in-Lacks-clause-does
returns-in-Lacks-clause-does g c =
    let found = rw c.in-Lacks.is at c.in_ok-value.ensures.found (λ v. Yield v) in
    if_both c.lack.result c.lack.ensures.needs c.lack.ensures.pushed (λ next e back.
    perform_lacks (g.W.World.state c.args.world.now).truth _ (frames.Global c.args.here) c.args.run.now c.value.new.run c.lack.new.run c.in-Lacks.name c.args.here.depth (place_of c.args.site.now.place) next found.so c.value.ensures.still e back)
