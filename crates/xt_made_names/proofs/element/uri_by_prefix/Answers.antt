use Rattle.std.proofs.Common.{ap}
use Rattle.xt_avt.proofs.Joining.{runs_as}
use Rattle.xt_made_names.specs.Uri.{uri_in}
use Rattle.xt_made_names.proofs.element.uri_by_prefix.Goals as goal

pub returns : goal.returns
returns c supply depth s = runs_as (ap uri_in (c.in_ok-expanded.ensures {u = tt})) (c.uri_of.ensures supply depth s)
