use Rattle.std.proofs.Common.{◌≡◌, length}
use Rattle.spec_run.specs.Going.{closed}
use Rattle.xt_progress.specs.View.{going_of}
use Rattle.xt_progress.proofs.going.Going.close.Given as goal

abbrev pub invariant-loop-around : goal.invariant-loop-around
invariant-loop-around l = record {
  closed : closed (going_of l.self) ≡ closed (going_of l.fn.self);
  streams : l.self.streams ≡ l.fn.self.streams;
  events : l.self.events ≡ l.fn.self.events;
  height : l.self.height ≡ l.fn.self.height;
}

abbrev pub decreases-loop-around : goal.decreases-loop-around
decreases-loop-around l = length l.self.outer.items
