use Rattle.std.proofs.Common.{◌≡◌, drop}
use Rattle.spec_meaning.specs.Supplies.{at_hand}
use Rattle.spec_transform.specs.Numbering.{referred_to}
use Rattle.xt_questions.specs.View.{context_of, supplies_of}
use Rattle.xt_questions.specs.Runs.{Continues}
use Rattle.xt_number.proofs.Referring.{names_in_pattern_steps}
use Rattle.xt_number.proofs.variables.refer_in_alternative.Given as goal

abbrev pub invariant-loop-step : goal.invariant-loop-step
invariant-loop-step g l =
    let state = g.W.World.state in
    let c = context_of l.focus l.context in
    record {
      same :
          Continues (at_hand (supplies_of l.supplies) l.context.depth) l.context.depth
          (referred_to (names_in_pattern_steps (drop l.step-index l.steps)) c) (state l.world)
          (referred_to (names_in_pattern_steps l.steps) c) (state l.fn.world);
      name : g.W.World.name l.world ≡ g.W.World.name l.fn.world;
    }
