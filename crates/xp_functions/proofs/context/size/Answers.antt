use Rattle.std.proofs.Common.{refl}
use Rattle.spec_meaning.specs.Program.{Size, Counted, count_in}
use Rattle.spec_meaning.specs.Convert.{counted}
use Rattle.xp_functions.proofs.Within.{needs}
use Rattle.xp_functions.proofs.context.size.Goals as goal

pub returns-in-Some-clause-runs : goal.returns-in-Some-clause-runs
returns-in-Some-clause-runs g c = rw c.in-Some.is (c.count.ensures _ _ _)

pub returns-in_ok-note_counted-in-None-clause-runs : goal.returns-in_ok-note_counted-in-None-clause-runs
returns-in_ok-note_counted-in-None-clause-runs g c = rw c.in-None.is (needs Size (Counted c.args.supplies.now.size) (λ x. counted (count_in x)) refl (c.in_ok-note_counted-in-None.ensures {u = tt}).seen (c.count-in-None.ensures _ _ _))
