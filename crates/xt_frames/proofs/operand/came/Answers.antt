use Rattle.xt_syntax.specs.PartView.{site_of}
use Rattle.xt_questions.proofs.Steps.{runs_keeps}
use Rattle.xt_progress.specs.View.{going_of}
use Rattle.xt_frames.specs.View.{here_of}
use Rattle.xt_frames.specs.Left.{hand}
use Rattle.xt_frames.proofs.Lefts.{if_ok}
use Rattle.xt_frames.proofs.Founds.{found_here}
use Rattle.xt_frames.proofs.operand.came.Goals as goal

pub returns-clause-found : goal.returns-clause-found
returns-clause-found g c =
    let r = c.args.run.now in
    if_ok c.settle.result c.settle.ensures (λ came s k.
    found_here g.O.Operand.seen (g.O.Operand.meant c.args.operand.now) (g.W.World.state c.args.world.now).truth (hand r) r.room k (here_of c.args.here.now) (site_of c.args.site.now) (going_of r.going) (going_of c.settle.new.going) _ c.new-reads.result.items c.noted-found.new.reads.items c.noted-found.result came _ _ c.new-reads.ensures.items c.in_ok-context.ensures.context c.in_ok-context.ensures.depth c.noted-found.ensures.runs s)

pub returns-clause-truth : goal.returns-clause-truth
returns-clause-truth g c = runs_keeps c.noted-found.ensures.runs
