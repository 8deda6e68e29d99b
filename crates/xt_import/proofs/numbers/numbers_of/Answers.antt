use Rattle.std.proofs.Common.{◌≡◌, ℕ, true, List, subst, sym}
use Rattle.xt_import.specs.Table.{none_rise, number_in}
use Rattle.xt_import.proofs.Certified.{all_unnumbered}
use Rattle.xt_import.proofs.numbers.numbers_of.Goals as goal

pub returns : goal.returns
returns c =
    let entries = c.args.table.now.entries in
    subst (λ (ns : List ℕ). none_rise (number_in entries ns) entries ≡ true) (sym c.new.ensures.items) (all_unnumbered entries entries)
