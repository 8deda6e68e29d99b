use Rattle.std.proofs.Common.{[], Ok, ap}
use Rattle.std.specs.Str.{chars}
use Rattle.spec_compile.specs.Reading.{Done, joined}
use Rattle.spec_compile.specs.Value.{unless_barred}
use Rattle.xt_attributes.specs.Answers.{finds_if, finds_then}
use Rattle.xt_attributes.specs.View.{barred_by}
use Rattle.xt_attributes.proofs.Rest.{under}
use Rattle.xt_attributes.proofs.attributes.entry_with.Goals as goal

pub returns : goal.returns
returns c =
    finds_then (λ r. Done (joined (under (chars c.args.local.now)) (unless_barred (barred_by c.args.element) r) (Ok []))) c.in_ok-value.ensures
    (finds_if (ap (λ u. joined (under (chars c.args.local.now)) u (Ok [])) c.unless_barred.ensures) c.named.ensures)
