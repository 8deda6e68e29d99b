use Rattle.spec_run.specs.Passes.{stays}
use Rattle.std.proofs.Common.{ap}
use Rattle.xt_progress.specs.View.{going_of}
use Rattle.xt_engine.specs.View.{call_of}
use Rattle.spec_run.specs.Plan.{Enter}
use Rattle.xt_frames.proofs.Lefts.{pushed, passes_at}
use Rattle.xt_frames.proofs.run.want.Goals as goal

pub returns : goal.returns
returns c ask =
    let r = c.args.run.now in
    let p = c.in-Ok.ensures in
    record {
      so = passes_at (ap (Enter (call_of c.args.call) c.args.depth) (pushed r c.push.new.run c.args.rest p.frames)) (ap going_of p.going) stays;
      room = p.room;
      supplies = p.supplies;
    }
