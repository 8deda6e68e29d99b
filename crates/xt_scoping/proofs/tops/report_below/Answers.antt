use Rattle.std.proofs.Common.{List, ◌++◌, ap, sym, ◌∙◌}
use Rattle.std.specs.List.{flat_map}
use Rattle.spec_compile.specs.Scoping.{set_in}
use Rattle.xt_top_level.specs.View.{top_level_in}
use Rattle.xt_scoping.specs.Steps.{outline_at, uses_at}
use Rattle.xt_scoping.specs.Told.{itself_at}
use Rattle.xt_scoping.specs.View.{found_in}
use Rattle.xt_scoping.proofs.Adding.{thrice}
use Rattle.xt_scoping.proofs.Outlines.{view-Outline}
use Rattle.xt_scoping.proofs.tops.report_below.Goals as goal

pub returns : goal.returns
returns c =
    let tops = c.args.tops.now in
    let locals = c.args.locals.now in
    let t = top_level_in c.args.top_level.now in
    let below = rw c.as_slice-below.ensures.value at c.in_ok-report_siblings.ensures.found in
    thrice _ _ _ _ _ _ _ c.in_ok-report_uses.ensures c.in_ok-report_itself.ensures below
    ∙ ap (λ o. found_in c.args.found.now.items ++ ((uses_at tops.known locals t.site t.uses ++ flat_map (itself_at tops t.site) (set_in t.declaration)) ++ outline_at tops.known locals o))
    (sym (view-Outline c.args.top_level.now.outline))
