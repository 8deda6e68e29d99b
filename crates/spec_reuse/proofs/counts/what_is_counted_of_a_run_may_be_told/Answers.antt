use Rattle.std.proofs.Common.{◌≡◌, true, false, sym, ◌∙◌}
use Rattle.spec_reuse.proofs.Counting.{run_counted, counted_entered, entered_counted}
use Rattle.spec_reuse.proofs.counts.what_is_counted_of_a_run_may_be_told.Goals as goal

pub returns-clause-counted : goal.returns-clause-counted
returns-clause-counted c = λ s last after is_made list old a.
    run_counted s last after (λ target node. is_made target node ≡ true) list
    (λ k h made. let never : true ≡ false = sym made ∙ old k h in absurd (cc)) a

pub returns-clause-entered : goal.returns-clause-entered
returns-clause-entered c = λ s records is_made list. counted_entered s records (λ target node. is_made target node ≡ true) list

pub returns-clause-may_count : goal.returns-clause-may_count
returns-clause-may_count c = λ s records is_made list. entered_counted s records (λ target node. is_made target node ≡ true) list
