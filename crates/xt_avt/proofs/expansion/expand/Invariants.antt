use Rattle.std.proofs.Common.{◌≡◌, drop, map}
use Rattle.spec_meaning.specs.Supplies.{at_hand}
use Rattle.spec_transform.specs.Expansion.{expanded, joined}
use Rattle.xt_syntax.specs.PartView.{avt_of, avt_part_of}
use Rattle.xt_questions.specs.View.{context_of, supplies_of}
use Rattle.xt_questions.specs.Runs.{Continues}
use Rattle.xt_avt.proofs.Joining.{Behind}
use Rattle.xt_avt.proofs.expansion.expand.Given as goal

abbrev pub invariant-loop-part : goal.invariant-loop-part
invariant-loop-part g l =
    let state = g.W.World.state in
    let c = context_of l.focus l.context in
    record {
      same :
          Continues (at_hand (supplies_of l.supplies) l.context.depth) l.context.depth
          (Behind l.done (joined (map avt_part_of (drop l.part-index l.part-items)) c)) (state l.world) (expanded (avt_of l.avt) c) (state l.fn.world);
      name : g.W.World.name l.world ≡ g.W.World.name l.fn.world;
    }
