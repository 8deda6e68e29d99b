use Rattle.std.proofs.Common.{List, map, ap, ◌∙◌}
use Rattle.spec_compile.specs.Sheet as spec
use Rattle.xt_import.specs.Parts.{stylesheet_in}
use Rattle.xt_import.specs.declared.precedence.Stylesheet.{Stylesheet}
use Rattle.xt_compile.specs.View.{said_in}
use Rattle.xt_compile.proofs.Whole.{checked_as}
use Rattle.xt_compile.proofs.compiled.second_pass.Goals as goal

pub returns : goal.returns
returns c says =
    let sheets = ap (λ (ss : List Stylesheet). spec.ranked_from (map said_in c.args.said.items) 0 (map stylesheet_in ss)) c.as_slice.ensures.value in
    checked_as c.as_slice-2.ensures.value (c.in_ok-ranked.ensures says ∙ sheets) c.checked.ensures
