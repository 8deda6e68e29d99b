use Rattle.spec_reuse.proofs.Fronts.{front_done, front_next, whole_done, front_ended, front_reads}
use Rattle.spec_reuse.proofs.laws.a_front_that_holds_is_done.Goals as goal

pub returns-clause-front : goal.returns-clause-front
returns-clause-front c = front_done

pub returns-clause-next : goal.returns-clause-next
returns-clause-next c = front_next

pub returns-clause-whole : goal.returns-clause-whole
returns-clause-whole c = whole_done

pub returns-clause-ended : goal.returns-clause-ended
returns-clause-ended c = front_ended

pub returns-clause-reads : goal.returns-clause-reads
returns-clause-reads c = front_reads
