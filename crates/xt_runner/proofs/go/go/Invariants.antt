use Rattle.std.proofs.Common.{◌≡◌, length}
use Rattle.spec_run.specs.Passes.{Passes}
use Rattle.xt_progress.specs.View.{going_of}
use Rattle.xt_frames.specs.Left.{left_in, weight, hand}
use Rattle.xt_runner.proofs.go.go.Given as goal

-- what is left here is what there was, some steps on
abbrev pub invariant-loop-call : goal.invariant-loop-call
invariant-loop-call g l =
    let truth = (g.W.World.state l.fn.world).truth in
    let first = l.fn.run in
    record {
      passes : Passes truth (hand first) first.room (left_in first) (going_of first.going) (left_in l.run) (going_of l.run.going);
      room : l.run.room ≡ first.room;
      supplies : l.run.supplies ≡ first.supplies;
      truth : (g.W.World.state l.world).truth ≡ truth;
      name : g.W.World.name l.world ≡ g.W.World.name l.fn.world;
    }

abbrev pub decreases-loop-call : goal.decreases-loop-call
decreases-loop-call g l = weight (g.W.World.state l.fn.world).truth l.run (left_in l.run) (length l.run.frames.items)
