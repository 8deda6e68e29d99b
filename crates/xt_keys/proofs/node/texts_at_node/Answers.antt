use Rattle.std.proofs.Common.{[], ◌∷◌}
use Rattle.spec_transform.specs.Key.{indexed, keys_named}
use Rattle.spec_node.specs.Naming.{same_ref}
use Rattle.xt_questions.proofs.Steps.{runs_then, runs_stop, runs_gives, exits}
use Rattle.xt_match.specs.Context.{units_in}
use Rattle.xt_match.proofs.Together.{runs_as}
use Rattle.xt_keys.proofs.OneNode.{only_one}
use Rattle.xt_keys.proofs.node.texts_at_node.Goals as goal

pub returns-in_err-found-clause-runs : goal.returns-in_err-found-clause-runs
returns-in_err-found-clause-runs g c =
    let found = rw c.no_supplies-supplies.ensures at c.in_err-found.ensures.runs in
    exits _ c.from_residual.ensures.1
    (runs_as (only_one c.args.node (indexed same_ref (keys_named c.args.name.now (units_in c.args.units.now)) (c.args.node ∷ []) [])) (runs_stop _ found))

pub returns-clause-runs : goal.returns-clause-runs
returns-clause-runs g c =
    let found = rw c.no_supplies-supplies.ensures at c.in_ok-found.ensures.runs in
    runs_as (only_one c.args.node (indexed same_ref (keys_named c.args.name.now (units_in c.args.units.now)) (c.args.node ∷ []) []))
    (runs_then _ found (runs_gives c.last_of.ensures))
