use Rattle.std.proofs.Common.{ap, sym, ◌∙◌}
use Rattle.spec_expression.specs.Syntax as plain
use Rattle.xt_match.specs.Fitting.{step_fits}
use Rattle.xt_match.specs.Tabled.{called_of}
use Rattle.xt_match.proofs.Views.{view-Step}
use Rattle.xt_match.proofs.fitting.step_fits.Goals as goal

pub returns : goal.returns
returns c = c.kind_fits.ensures ∙ ap (λ (s : plain.Step). step_fits (called_of c.args.called.now) s) (sym (view-Step c.args.step.now))
