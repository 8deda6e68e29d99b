use Rattle.std.proofs.Common.{sym, subst}
use Rattle.xt_frames.specs.declared.frame.Frame.{Frame}
use Rattle.xt_frames.specs.Left.{StepsFrom}
use Rattle.xt_runner.proofs.Onwards.{steps_of}
use Rattle.xt_runner.proofs.step.go_on.Goals as goal

pub returns-in-Sets-clause-does : goal.returns-in-Sets-clause-does
returns-in-Sets-clause-does g c = steps_of c.args.run.now c.go_on_sets.new.run (g.W.World.state c.args.world.now).truth c.go_on_sets.result c.in-Sets.is c.go_on_sets.ensures

pub returns-in-Inside-clause-does : goal.returns-in-Inside-clause-does
returns-in-Inside-clause-does g c = steps_of c.args.run.now c.go_on_inside.new.run (g.W.World.state c.args.world.now).truth c.go_on_inside.result c.in-Inside.is c.go_on_inside.ensures

pub returns-in-Loop-clause-does : goal.returns-in-Loop-clause-does
returns-in-Loop-clause-does g c = steps_of c.args.run.now c.go_on_loop.new.run (g.W.World.state c.args.world.now).truth c.go_on_loop.result c.in-Loop.is c.go_on_loop.ensures

pub returns-in-Items-clause-does : goal.returns-in-Items-clause-does
returns-in-Items-clause-does g c = steps_of c.args.run.now c.go_on_items.new.run (g.W.World.state c.args.world.now).truth c.go_on_items.result c.in-Items.is c.go_on_items.ensures

pub returns-in-Take-clause-does : goal.returns-in-Take-clause-does
returns-in-Take-clause-does g c = steps_of c.args.run.now c.take_held.new.run (g.W.World.state c.args.world.now).truth c.take_held.result c.in-Take.is c.take_held.ensures

pub returns-in-Wrap-clause-does : goal.returns-in-Wrap-clause-does
returns-in-Wrap-clause-does g c = steps_of c.args.run.now c.go_on_wrap.new.run (g.W.World.state c.args.world.now).truth c.go_on_wrap.result c.in-Wrap.is c.go_on_wrap.ensures

pub returns-in-Terminate-clause-does : goal.returns-in-Terminate-clause-does
returns-in-Terminate-clause-does g c =
    let truth = (g.W.World.state c.args.world.now).truth in
    let run = c.args.run.now in
    let P : Frame → Type 0 = λ f. StepsFrom truth f run run c.terminate.result in
    subst P (sym c.in-Terminate.is) (c.terminate.ensures truth run)
