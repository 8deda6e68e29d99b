use Rattle.std.proofs.Common.{sym, ap, ◌∙◌}
use Rattle.spec_edit.specs.Splice as spec
use Rattle.xt_edit.proofs.Sites.{spot_of-last}
use Rattle.xt_edit.proofs.site.spot_of.Goals as goal

pub returns-in-Some : goal.returns-in-Some
returns-in-Some c =
    sym (ap spec.spot_of (sym c.positions.ensures ∙ c.in-Some.ensures.cases.0) ∙ spot_of-last c.in-Some.parent.now c.in-Some.position.now)
