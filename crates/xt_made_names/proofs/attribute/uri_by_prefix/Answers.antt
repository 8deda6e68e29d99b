use Rattle.std.proofs.Common.{◌≡◌, false, sym, ◌∙◌}
use Rattle.spec_run.specs.Plan.{AsAttribute}
use Rattle.spec_run.specs.Names.{has_xmlns}
use Rattle.xt_avt.proofs.Joining.{runs_as}
use Rattle.xt_made_names.proofs.Called.{runs_mapped, attribute_in_is}
use Rattle.xt_made_names.proofs.Choosing.{otherwise}
use Rattle.xt_made_names.proofs.attribute.uri_by_prefix.Goals as goal

pub returns : goal.returns
returns c written supply depth s =
    let e : has_xmlns c.args.name.now ≡ false = sym c.has_xmlns.ensures ∙ c.if-has_xmlns.false in
    runs_as (otherwise (has_xmlns c.args.name.now) _ _ e)
    (runs_as (attribute_in_is written _) (runs_mapped (AsAttribute written) _ (c.uri_in_scope.ensures supply depth s)))
