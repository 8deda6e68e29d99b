use Rattle.xt_world.proofs.Holding.{always_err, always_ok, one_state}
use Rattle.xt_world.proofs.source.SourceWorld.ask.Goals as goal

pub returns-in-Key-clause-asked : goal.returns-in-Key-clause-asked
returns-in-Key-clause-asked c = always_ok c.keyed.result (one_state c.keyed.ensures.same)

pub returns-in-Key-clause-err : goal.returns-in-Key-clause-err
returns-in-Key-clause-err c = always_err c.keyed.result c.keyed.ensures.same
