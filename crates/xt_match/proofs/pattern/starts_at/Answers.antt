use Rattle.xt_questions.proofs.Steps.{runs_gives}
use Rattle.xt_match.proofs.pattern.starts_at.Goals as goal

pub returns-in-Root-clause-runs : goal.returns-in-Root-clause-runs
returns-in-Root-clause-runs g c supply depth = rw c.in-Root.is (runs_gives c.is_root.ensures)

pub returns-in-Some-clause-runs : goal.returns-in-Some-clause-runs
returns-in-Some-clause-runs g c supply depth = rw c.in-Key.is (rw c.in-Some.is (c.has_key.ensures.runs supply depth))
