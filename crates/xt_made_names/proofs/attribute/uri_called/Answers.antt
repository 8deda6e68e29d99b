use Rattle.std.proofs.Common.{Option, None, ap}
use Rattle.std.specs.Str.{chars}
use Rattle.spec_document.specs.Name.{QName}
use Rattle.spec_run.specs.Names.{attribute_called}
use Rattle.xt_avt.proofs.Joining.{runs_as}
use Rattle.xt_made_names.proofs.attribute.uri_called.Goals as goal

pub returns-in-Some : goal.returns-in-Some
returns-in-Some c supply depth s =
    let name = chars c.args.name.now in
    runs_as (ap (λ (q : Option QName). attribute_called c.args.scope.now name q None) c.in-Some.ensures) (c.uri_by_prefix.ensures name supply depth s)
