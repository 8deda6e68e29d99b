use Rattle.std.proofs.Common.{sym, ap, ◌∙◌, ◌++◌}
use Rattle.xt_scoping.specs.View.{found_in}
use Rattle.xt_scoping.proofs.Adding.{thrice, on_ok_always}
use Rattle.xt_scoping.proofs.Outlines.{in_parts}
use Rattle.xt_scoping.proofs.outline.+below.Goals as goal

pub report_element-returns-clause-found : goal.report_element-returns-clause-found
report_element-returns-clause-found t c =
    let second = rw c.as_ref.ensures.value at c.in_ok-report_shadowed.ensures in
    let third = rw c.as_slice-below.ensures.value at c.in_ok-report_siblings.ensures.found in
    on_ok_always c.add_some.result
    (thrice _ _ _ _ _ _ _ c.in_ok-report_uses.ensures second third
    ∙ ap (λ more. found_in c.args.found.now.items ++ more) (sym (in_parts c.args.known.now c.args.locals.now c.args.element.now)))
