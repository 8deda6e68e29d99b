use Rattle.std.proofs.Common.{◌≡◌, ℕ, true, List, subst, sym}
use Rattle.xt_import.specs.Table.{none_rise, number_in}
use Rattle.xt_import.proofs.Certified.{all_known}
use Rattle.xt_import.proofs.listed.tree.Goals as goal

pub returns-clause-link_faults : goal.returns-clause-link_faults
returns-clause-link_faults c =
    let entries = c.in_ok-table.table.entries in
    let rise : none_rise (number_in entries c.as_slice.result.now) entries ≡ true
    = subst (λ (ns : List ℕ). none_rise (number_in entries ns) entries ≡ true) (sym c.as_slice.ensures.value) c.in_ok-numbers.ensures in
    c.in_ok-listed.ensures.link_faults
    (all_known (number_in entries c.as_slice.result.now) entries c.in_ok-table.ensures.names c.in_ok-table.ensures.links rise)
