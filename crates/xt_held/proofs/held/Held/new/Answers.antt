use Rattle.std.proofs.Common.{rules, ap, refl}
use Rattle.xt_held.specs.declared.counts.Counts.{Counts}
use Rattle.xt_held.proofs.Left.{nothing_kept}
use Rattle.xt_held.proofs.Paying.{first_past}
use Rattle.xt_held.proofs.held.Held.new.Goals as goal

pub returns-clause-current : goal.returns-clause-current
returns-clause-current c = search (rules, nothing_kept)

pub returns-clause-past : goal.returns-clause-past
returns-clause-past c = λ called.
    first_past called _ refl c.new.ensures.empty refl refl c.new-3.ensures.records c.nothing.ensures refl (ap (λ (counts : Counts). counts.ran) c.no_counts.ensures)
    (ap (λ (counts : Counts). counts.asked) c.no_counts.ensures)
