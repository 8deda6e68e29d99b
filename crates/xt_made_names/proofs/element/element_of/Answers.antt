use Rattle.std.proofs.Common.{◌≡◌, false, sym, ◌∙◌}
use Rattle.spec_run.specs.Names.{is_barred}
use Rattle.xt_avt.proofs.Joining.{runs_as}
use Rattle.xt_made_names.proofs.Choosing.{otherwise}
use Rattle.xt_made_names.proofs.element.element_of.Goals as goal

pub returns : goal.returns
returns c supply depth s =
    let e : is_barred c.args.told ≡ false = sym c.is_barred.ensures ∙ c.if-is_barred.false in
    runs_as (otherwise (is_barred c.args.told) _ _ e) (c.element_called.ensures supply depth s)
