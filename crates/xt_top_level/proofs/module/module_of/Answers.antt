use Rattle.std.proofs.Common.{◌∙◌, ap, sym}
use Rattle.spec_compile.specs.Unit.{module_of}
use Rattle.xt_top_level.proofs.Labels.{module_of-plain}
use Rattle.xt_top_level.proofs.Steps.{answers_as}
use Rattle.xt_top_level.proofs.module.module_of.Goals as goal

pub returns : goal.returns
returns c = answers_as (ap (module_of c.args.name.now 1) c.children.ensures ∙ sym (module_of-plain c.args.name.now 1 c.args.document.now.nodes)) c.module_among.ensures
