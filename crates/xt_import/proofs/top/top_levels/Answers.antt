use Rattle.std.proofs.Common.{◌∙◌, ap, sym}
use Rattle.spec_structure.specs.Modules.{top_levels_of}
use Rattle.xt_import.specs.Levels.{top_levels_in}
use Rattle.xt_import.proofs.Levels.{of-plain, if_ok_on}
use Rattle.xt_import.proofs.top.top_levels.Goals as goal

pub returns : goal.returns
returns c =
    if_ok_on (λ levels. top_levels_in levels.items) c.levels_of.result _ _ c.levels_of.ensures
    (ap (top_levels_of 1) c.children.ensures ∙ sym (of-plain 1 c.args.document.now.nodes))
