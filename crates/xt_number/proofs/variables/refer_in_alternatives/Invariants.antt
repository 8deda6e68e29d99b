use Rattle.std.proofs.Common.{◌≡◌, drop, map}
use Rattle.std.specs.List.{flat_map}
use Rattle.spec_meaning.specs.Supplies.{at_hand}
use Rattle.spec_transform.specs.Numbering.{names_in_alternative, referred_to}
use Rattle.xt_syntax.specs.PartView.{alternative_of}
use Rattle.xt_questions.specs.View.{context_of, supplies_of}
use Rattle.xt_questions.specs.Runs.{Continues}
use Rattle.xt_number.proofs.variables.refer_in_alternatives.Given as goal

abbrev pub invariant-loop-alternative : goal.invariant-loop-alternative
invariant-loop-alternative g l =
    let state = g.W.World.state in
    let c = context_of l.focus l.context in
    record {
      same :
          Continues (at_hand (supplies_of l.supplies) l.context.depth) l.context.depth
          (referred_to (flat_map names_in_alternative (map alternative_of (drop l.alternative-index l.alternatives))) c) (state l.world)
          (referred_to (flat_map names_in_alternative (map alternative_of l.alternatives)) c) (state l.fn.world);
      name : g.W.World.name l.world ≡ g.W.World.name l.fn.world;
    }
