use Rattle.xt_own.proofs.Reading.{told_of_asked, with_saw}
use Rattle.xt_own.proofs.asked.add_read.Goals as goal

pub returns-in-Saw : goal.returns-in-Saw
returns-in-Saw c = rw c.in-Saw.is (λ told reads h. with_saw reads _ _ _ h)

pub returns-in-Asked : goal.returns-in-Asked
returns-in-Asked c = rw c.in-Asked.is (told_of_asked c.add_asked.result _ _ _ _ c.add_asked.ensures)
