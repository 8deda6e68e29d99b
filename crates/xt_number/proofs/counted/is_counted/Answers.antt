use Rattle.std.proofs.Common.{None}
use Rattle.xt_number.proofs.counted.is_counted.Goals as goal

pub returns-in-Matching-clause-runs : goal.returns-in-Matching-clause-runs
returns-in-Matching-clause-runs g c f = rw c.in-Matching.is (c.matches.ensures.runs (record { node = c.args.node; position = None; size = None }))

pub returns-in-CalledAs-clause-runs : goal.returns-in-CalledAs-clause-runs
returns-in-CalledAs-clause-runs g c f = rw c.in-CalledAs.is (c.is_called.ensures.runs _ _)
