use Rattle.std.proofs.Common.{◌≡◌, rules}
use Rattle.spec_run.specs.Plan.{End}
use Rattle.xt_frames.specs.View.{here_of, global_left}
use Rattle.xt_runner.specs.Start.{declared_in}
use Rattle.xt_runner.proofs.Globals.{done_does}
use Rattle.xt_runner.proofs.parameters.go_on_global.Goals as goal

pub returns-in-Template-clause-does : goal.returns-in-Template-clause-does
returns-in-Template-clause-does g c =
    let none : global_left (declared_in c.args.here) (here_of c.args.here) ≡ End = search rules in
    done_does _ _ _ c.args.run.now none

pub returns-in-AttributeSet-clause-does : goal.returns-in-AttributeSet-clause-does
returns-in-AttributeSet-clause-does g c =
    let none : global_left (declared_in c.args.here) (here_of c.args.here) ≡ End = search rules in
    done_does _ _ _ c.args.run.now none

pub returns-in-Key-clause-does : goal.returns-in-Key-clause-does
returns-in-Key-clause-does g c =
    let none : global_left (declared_in c.args.here) (here_of c.args.here) ≡ End = search rules in
    done_does _ _ _ c.args.run.now none
