use Rattle.std.proofs.Common.{map, ap, ◌∙◌}
use Rattle.spec_stylesheet.specs.Instruction.{bindings}
use Rattle.xt_syntax.specs.InstrView.{binding_of}
use Rattle.xt_syntax.specs.PartView.{site_of}
use Rattle.xt_lift.proofs.Kept.{parameters_listed}
use Rattle.xt_lift.proofs.bindings.parameters_for.Goals as goal

pub returns : goal.returns
returns c =
    ap (λ v. bindings (map binding_of v.items)) c.in_ok-new.ensures.ok ∙ ap (λ list. bindings list) c.in_ok-list.ensures
    ∙ parameters_listed (site_of c.args.site.now) c.args.names.now
