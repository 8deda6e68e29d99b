use Rattle.spec_reuse.proofs.Again.{same_meaning, same_record}
use Rattle.spec_reuse.proofs.laws.a_call_comes_to_one_end.Goals as goal

pub returns-clause-meant : goal.returns-clause-meant
returns-clause-meant c = same_meaning

pub returns-clause-kept : goal.returns-clause-kept
returns-clause-kept c = same_record
