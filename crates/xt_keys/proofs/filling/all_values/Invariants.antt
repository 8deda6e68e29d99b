use Rattle.std.proofs.Common.{◌≡◌, [], length, drop}
use Rattle.spec_meaning.specs.Supplies.{at_hand}
use Rattle.spec_transform.specs.Key.{keys_named}
use Rattle.xt_questions.specs.View.{supplies_of}
use Rattle.xt_match.specs.Context.{units_in}
use Rattle.xt_keys.specs.View.{texts_in}
use Rattle.xt_keys.proofs.Programs.{Filled, left_of_keys}
use Rattle.xt_keys.proofs.filling.all_values.Given as goal

abbrev pub invariant-loop-resolved : goal.invariant-loop-resolved
invariant-loop-resolved g l =
    let state = g.W.World.state in
    record {
      each : length l.found.items ≡ length l.nodes;
      filled : Filled (at_hand (supplies_of l.supplies) 0) (left_of_keys l.nodes (keys_named l.name (units_in (drop l.resolved-index l.units)))) l.nodes (texts_in l.found) (state l.world)
          (left_of_keys l.nodes (keys_named l.name (units_in l.units)) []) (state l.fn.world);
      name : g.W.World.name l.world ≡ g.W.World.name l.fn.world;
    }
