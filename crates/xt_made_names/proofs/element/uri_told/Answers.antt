use Rattle.std.proofs.Common.{[]}
use Rattle.spec_run.specs.Plan.{AsElement}
use Rattle.xt_avt.proofs.Joining.{runs_as}
use Rattle.xt_made_names.proofs.Called.{runs_mapped, element_in_is}
use Rattle.xt_made_names.proofs.element.uri_told.Goals as goal

pub returns-in-None : goal.returns-in-None
returns-in-None c written supply depth s =
    rw c.in-None.is (runs_as (element_in_is written _) (runs_mapped (λ uri. AsElement written uri []) _ (c.uri_by_prefix.ensures supply depth s)))
