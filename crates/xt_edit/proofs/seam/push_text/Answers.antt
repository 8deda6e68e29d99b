use Rattle.std.proofs.Common.{[], ◌∷◌, sym, ap, ◌∙◌}
use Rattle.std.specs.Option.{option_map}
use Rattle.spec_edit.specs.Splice.{met}
use Rattle.xt_tree.specs.View.{forest_of}
use Rattle.xt_edit.specs.Seam.{begun}
use Rattle.xt_edit.proofs.Seams.{met-none}
use Rattle.xt_edit.proofs.seam.push_text.Goals as goal

pub returns-in-None : goal.returns-in-None
returns-in-None c =
    sym (ap (λ o. met c.args.joined.now (begun (option_map (λ text. forest_of (text.now ∷ [])) o))) c.in-None.is ∙ met-none c.args.joined.now)
